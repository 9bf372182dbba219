-- What the code gives back, as the effect that it stands for.
use Rattle.memory.specs.declared.Fault.{Fault}
use Rattle.std.specs.Prelude.{Result}
use Rattle.std.specs.Prelude.{Option, Some, None}
use Prim.Native.Nat.{ℕ, ◌+◌, ◌/◌, ◌≤◌}
use native.Mathlib.Omega.{arith}
use mathlib.Core.Bool.{Bool, true, false, cond}
use mathlib.Core.List.{List}
use mathlib.Core.Path.{◌≡◌, refl, sym, ◌∙◌}
use lib.Dec.{ltb}
use lib.ListN.{length}
use borrow.Author.Tests.{le-ltb, ltb-false}
use Rattle.page.specs.Page.{first_of}
use Rattle.isa.specs.ListedEncodings.{opens32}
use Rattle.isa.specs.declared.Instruction.{Instruction}
use Rattle.isa.specs.declared.Instruction.TheVariants as instruction
use Rattle.platform.specs.Programs.{Program, program_of, setting_of}
use Rattle.platform.specs.declared.Platform.{Platform}
use Rattle.window.specs.declared.Window.{Window}
use Rattle.service.specs.Services.{service_of}
use Rattle.ending.specs.Endings.{ending_on}
use Rattle.ending.specs.declared.Ending.{Ending}
use Rattle.literal.specs.declared.Service.{Service}
use Rattle.state.specs.declared.Record.{Record}
use Rattle.writing.specs.declared.Writes.{Writes}
use Rattle.access.specs.Outcomes.{Outcome, does, fails, did_of, Does}
use Rattle.access.specs.Outcomes as outcomes
use Rattle.effects.specs.ServiceEffects.{service_does}
use Rattle.stop.specs.Stops.{Exit}
use Rattle.plain.specs.PlainMachine.{Effect, goes_on, exits}
use Rattle.place.specs.Places.{instruction_at, following}
use Rattle.instruction.specs.Instructions.{end_at, branch_to, branch_if, exit_of, served_by, served}
use Rattle.execution.specs.Executed.{exit_end, executed_of, effect_ram, ended_by, NotData, not_data, executable}
use Rattle.execution.specs.declared.End.{End}
use Rattle.execution.specs.declared.End.TheVariants.{GoesOn}

-- the end by which the code says how an effect ends
abbrev pub Ends : End → (Record → List ℕ → Effect) → Type 0
Ends end effect = (r s : Record) (ram left : List ℕ)
    → (record { end = end; rec = s } ≡ executed_of r (effect s left)) × (left ≡ effect_ram ram (effect s left))

pub goes_on_lem : Ends GoesOn goes_on
unfolding executed_of effect_ram
goes_on_lem r s ram after = (refl, refl)

pub exits_so : (exit : Exit) → Ends (exit_end exit) (exits exit)
unfolding executed_of effect_ram
exits_so exit r s ram after = (refl, refl)

-- done as an outcome says, and it ends so at a place
pub ends : (end : End) (effect : Record → List ℕ → Effect) → Ends end effect
    → (r : Record) (ram after : List ℕ) (place : ℕ) (o : Outcome) (d : Result Writes Fault)
    → Does ram o d after
    → (ended_by end r place d ≡ executed_of r (end_at effect r place o)) × (after ≡ effect_ram ram (end_at effect r place o))
unfolding ended_by executed_of effect_ram end_at did_of outcomes.outcome_ram
ends end effect e r ram after place (does w m) d h = rw (h.0, h.1) (e r _ ram m)
ends end effect e r ram after place (fails f) d h = rw (h.0, h.1) (refl, refl)

-- a branch changes no RAM
pub branch_ram : (r : Record) (ram : List ℕ) (t : Option ℕ) → ram ≡ effect_ram ram (branch_to r ram t)
unfolding branch_to effect_ram
branch_ram r ram None = refl
branch_ram r ram (Some b) = refl

pub branch_if_ram : (taken : Bool) (r : Record) (ram : List ℕ) (next : ℕ) (t : Option ℕ) → ram ≡ effect_ram ram (branch_if taken r ram next t)
unfolding branch_if effect_ram
branch_if_ram true r ram next t = branch_ram r ram t
branch_if_ram false r ram next t = refl

-- a service, by its meaning and its ending
pub serving : (page : List ℕ) (platform : Platform) (external : List ℕ) (window : Window) (r : Record) (ram : List ℕ) (n : ℕ) (s : Service) (e : Ending)
    → s ≡ service_of page n → e ≡ ending_on platform.never_return s
    → served (setting_of (program_of page platform) external window) r ram n
    ≡ served_by e (exit_of page n) r (following page r.place) (service_does (length external) window s r ram)
unfolding served
serving page platform external window r ram n s e p q = rw (q, p)

pub behind_near : (page : List ℕ) (place next : ℕ) → next ≡ following page place → next ≤ place + 2
unfolding following
behind_near page place next e = rw e (by (opens32 (first_of page (place / 2))))
  where
    by : (t : Bool) → place + cond t 2 1 ≤ place + 2
    by true = omega arith
    by false = omega arith

-- ---- at a place of a page

not_data_lem : (i : Instruction) → NotData i → not_data i ≡ i
unfolding not_data
not_data_lem (instruction.Data operation) h = absurd (h operation refl)
not_data_lem (instruction.Memory access) h = refl
not_data_lem (instruction.Cbz imm6 n) h = refl
not_data_lem (instruction.Cbnz imm6 n) h = refl
not_data_lem (instruction.Bcc condition imm8) h = refl
not_data_lem (instruction.B imm11) h = refl
not_data_lem (instruction.Service n) h = refl
not_data_lem instruction.Unlisted h = refl

past_page : (program : Program) (place : ℕ) → length program.page ≤ 256 → 128 ≤ place → instruction_at program place ≡ instruction.Unlisted
unfolding instruction_at
past_page program place l h = rw (le-ltb (place / 2) (length program.page / 4) (omega arith))

-- what stands there, data processing aside, is executed
pub stands : (program : Program) (place : ℕ) (i : Instruction) → length program.page ≤ 256 → i ≡ instruction_at program place → NotData i
    → executable place i ≡ instruction_at program place
unfolding executable
stands program place i l e d = by (ltb place 128) refl
  where
    by : (t : Bool) → ltb place 128 ≡ t → cond t (not_data i) instruction.Unlisted ≡ instruction_at program place
    by true h = not_data_lem i d ∙ e
    by false h = sym (past_page program place l (ltb-false place 128 h))
