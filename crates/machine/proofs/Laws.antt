-- A turn of the run.
use Rattle.std.specs.Prelude.{Ok, Option, Some, None}
use Rattle.std.specs.Prelude as std
use Prim.Native.Nat.{ℕ, ◌+◌, ◌-◌, ◌/◌, ◌<◌}
use mathlib.Core.Bool.{Bool, true, false, cond, true≢false}
use mathlib.Core.List.{List}
use mathlib.Core.Path.{◌≡◌, refl, sym, ap, ◌∙◌}
use lib.Dec.{ltb}
use lib.ListN.{length, set, length-set}
use borrow.Author.Tests.{ltb-true}
use Rattle.refusal.specs.Refusals.{decision_of}
use Rattle.refusal.specs.declared.Refusal.{Refusal}
use Rattle.page.specs.Page.{page_fits, first_of, second_of}
use Rattle.admission.specs.RunRefusals.{run_decision}
use Rattle.admission.proofs.Theorems.{accepted_all}
use Rattle.isa.specs.declared.Operation.{Operation}
use Rattle.isa.specs.declared.Instruction.{Instruction}
use Rattle.isa.specs.declared.Instruction.TheVariants.{Data}
use Rattle.isa.specs.declared.Instruction.TheVariants as instruction
use Rattle.platform.specs.Programs.{Program, Setting, encodings_in}
use Rattle.platform.proofs.Theorems.{program_accepted}
use Rattle.memory.specs.Faults.{fault_number}
use Rattle.writing.specs.Writes.{written_to, applied}
use Rattle.state.specs.declared.Record.{Record}
use Rattle.state.proofs.Registers.{set_eighth}
use Rattle.compute.specs.Computed.{computed}
use Rattle.compute.specs.declared.Computed.{Computed}
use Rattle.stop.specs.Stops.{direct, by_literal, service, fault}
use Rattle.stop.specs.Stops as stops
use Rattle.plain.specs.PlainMachine.{Effect, goes_on, exits, faults, unlisted, Result, onward, plain}
use Rattle.plain.proofs.Theorems.{turn}
use Rattle.place.specs.Places.{is_even, stands_in, instruction_at, following}
use Rattle.instruction.specs.Instructions.{end_at, writes_of, effect_of, instruction_of}
use Rattle.execution.specs.Executed.{exit_end, Ended, executed_of, effect_ram, executable, Executes}
use Rattle.execution.specs.declared.End.{End}
use Rattle.execution.specs.declared.End.TheVariants.{GoesOn, Exits, ExitsBy, Fails, Unlisted}
use Rattle.execution.specs.declared.Executed.{Executed}

-- what becomes of a run, by how its instruction ended
abbrev pub resumed : ℕ → (Record → List ℕ → Result) → End → Record → List ℕ → Result
resumed steps next GoesOn r ram = next r ram
resumed steps next (Exits n) r ram = record { stop = service (direct n); steps = steps + 1; rec = r; ram = ram }
resumed steps next (ExitsBy n literal) r ram = record { stop = service (by_literal n literal); steps = steps + 1; rec = r; ram = ram }
resumed steps next (Fails f) r ram = record { stop = fault (fault_number f); steps = steps; rec = r; ram = ram }
resumed steps next Unlisted r ram = record { stop = stops.unlisted; steps = steps; rec = r; ram = ram }

onward_resumed : (steps : ℕ) (r : Record) (ram : List ℕ) (next : Record → List ℕ → Result) (e : Effect)
    → resumed steps next (executed_of r e).end (executed_of r e).rec (effect_ram ram e) ≡ onward steps r ram next e
unfolding executed_of effect_ram exit_end
onward_resumed steps r ram next (goes_on s after) = refl
onward_resumed steps r ram next (exits (direct n) s after) = refl
onward_resumed steps r ram next (exits (by_literal n literal) s after) = refl
onward_resumed steps r ram next (faults f) = refl
onward_resumed steps r ram next unlisted = refl

-- a turn of the loop
pub turns : (setting : Setting) (total steps : ℕ) (r : Record) (ram left : List ℕ) (i : Instruction) (x : Executed) (end : End) (s : Record)
    (result : Result) → steps < total → executable r.place i ≡ instruction_at setting.program r.place
    → Executes r ram (effect_of setting r ram (executable r.place i)) x left → x.end ≡ end
    → s ≡ applied r x.writes x.place → plain (instruction_of setting) (total - steps) steps r ram ≡ result
    → resumed steps (plain (instruction_of setting) (total - (steps + 1)) (steps + 1)) end s left ≡ result
unfolding instruction_of
turns setting total steps r ram left i x end s result l f h e w inv =
    let found = rw f at h in
    rw (w ∙ ap (λ (a : Ended). a.rec) found.0, sym e ∙ ap (λ (a : Ended). a.end) found.0, found.1)
    (onward_resumed steps r ram (plain (instruction_of setting) (total - (steps + 1)) (steps + 1)) (instruction_of setting r ram)
    ∙ turn (instruction_of setting) total steps r ram (instruction_of setting r ram) result l refl inv)

-- ---- a data-processing instruction, in place

pub data_inside : (program : Program) (place : ℕ) (operation : Operation) → instruction_at program place ≡ Data operation
    → place / 2 < length program.page / 4
unfolding instruction_at
data_inside program place operation =
    by (ltb (place / 2) (length page / 4)) (stands_in (encodings_in program) (is_even place) (first_of page (place / 2)) (second_of page (place / 2)))
    refl
  where
    page : List ℕ
    page = program.page

    by : (t : Bool) (i : Instruction) → ltb (place / 2) (length page / 4) ≡ t → cond t i instruction.Unlisted ≡ Data operation
        → place / 2 < length page / 4
    by true i e h = ltb-true (place / 2) (length page / 4) e
    by false i e h = absurd (true≢false cc)

-- the record with one register written at most
abbrev pub registered : Record → Option (ℕ × ℕ) → Record
registered r w = record { regs = written_to r.regs w; sp = r.sp; flags = r.flags; place = r.place; base = r.base }

pub registered_length : (r s : Record) (w : Option (ℕ × ℕ)) → s ≡ registered r w → length r.regs ≡ 8 → length s.regs ≡ 8
registered_length r s None e l = rw e l
registered_length r s (Some (k, x)) e l = rw (e, length-set) l

pub set_written : (r : Record) (w : Option (ℕ × ℕ)) (k x : ℕ) (after : List ℕ) → w ≡ Some (k, x) → length r.regs ≡ 8
    → after ≡ cond (ltb k 8) (set r.regs k x) r.regs
    → record { regs = after; sp = r.sp; flags = r.flags; place = r.place; base = r.base } ≡ registered r w
set_written r w k x after e l h = rw (e, h, set_eighth r.regs k x l)

pub none_written : (r : Record) (w : Option (ℕ × ℕ)) → w ≡ None → r ≡ registered r w
none_written r w e = rw e

pub data_turn : (setting : Setting) (total steps : ℕ) (r s : Record) (ram : List ℕ) (operation : Operation) (c : Computed) (next : ℕ)
    (result : Result) → steps < total → instruction_at setting.program r.place ≡ Data operation
    → c ≡ computed operation r.regs r.sp r.flags → next ≡ following setting.program.page r.place → s ≡ registered r c.register
    → plain (instruction_of setting) (total - steps) steps r ram ≡ result
    → plain (instruction_of setting) (total - (steps + 1)) (steps + 1)
    (record { regs = s.regs; sp = s.sp; flags = c.flags; place = next; base = s.base }) ram
    ≡ result
unfolding instruction_of effect_of end_at applied
data_turn setting total steps r s ram operation c next result l i e n w h =
    rw (w, e, n) (turn (instruction_of setting) total steps r ram
    (goes_on (applied r (writes_of operation r) (following setting.program.page r.place)) ram) result l (rw i) h)

-- ---- a call

-- once a run is accepted, so is its page
pub page_accepted : (setting : Setting) (r : Record) (ram : List ℕ) (v : std.Result Unit Refusal) → decision_of v ≡ run_decision setting r ram → v ≡ Ok tt
    → page_fits setting.program.page ≡ true
page_accepted setting r ram v e h = (program_accepted setting.program (accepted_all setting r ram (sym e ∙ ap decision_of h)).0).1
