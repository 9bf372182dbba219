-- From a fit record, place and RAM an instruction goes on or exits with fit ones, an exit being by a service that stands there, or
-- it meets one of the seven faults; and a fit place starts a listed instruction.
use Rattle.std.specs.Prelude.{Option, Some, None}
use Prim.Native.Nat.{ℕ, ◌*◌}
use native.Mathlib.Omega.{arith}
use mathlib.Core.Bool.{Bool, true, false, not}
use mathlib.Core.List.{List}
use mathlib.Core.Path.{◌≡◌, refl, ap}
use lib.Dec.{eqb}
use lib.IntN.{pos}
use lib.ListN.{length}
use Rattle.bits.specs.Fields.{bits}
use Rattle.bits.specs.Integers.{SInt}
use Rattle.arm.specs.Conditions.{condition_holds}
use Rattle.refusal.specs.Refusals.{accepted, decision}
use Rattle.platform.specs.Programs.{Program, program_rules, Setting}
use Rattle.isa.specs.declared.Instruction.{Instruction}
use Rattle.isa.specs.declared.Instruction.TheVariants.{Data, Memory, Cbz, Cbnz, Bcc, B, Unlisted}
use Rattle.isa.specs.declared.Instruction.TheVariants as instruction
use Rattle.branch.specs.Branches.{target_of}
use Rattle.service.specs.Services.{service_of}
use Rattle.ending.specs.Endings.{ending_in}
use Rattle.ending.specs.declared.Ending.{Ending}
use Rattle.ending.specs.declared.Ending.TheVariants as ending
use Rattle.flow.specs.Flow.{ends_flow, jump_to, service_jump, flow_by, flow_of}
use Rattle.memory.specs.Faults.{fault_number}
use Rattle.memory.specs.declared.Fault.{Fault}
use Rattle.memory.specs.declared.Fault.TheVariants.{NoBase, PastRam, OffExternalPage, PastStack, LowStack, PastPage, OutsideWindow}
use Rattle.state.specs.FitRecord.{fit_record}
use Rattle.state.specs.Record.{register, with_place}
use Rattle.writing.specs.Writes.{writes_nothing, applied}
use Rattle.state.specs.declared.Record.{Record}
use Rattle.writing.specs.declared.Writes.{Writes}
use Rattle.access.specs.Outcomes.{Outcome, does, fails}
use Rattle.access.specs.LoadsAndStores.{accessed}
use Rattle.effects.specs.ServiceEffects.{service_does}
use Rattle.plain.specs.PlainMachine.{Effect, goes_on, exits}
use Rattle.place.specs.Places.{instruction_at, following, fit_place}
use Rattle.series.proofs.Keeps.{Keeps}
use Rattle.instruction.specs.Instructions.{end_at, branch_to, branch_if, exit_of, served_by, served, writes_of, effect_of, instruction_of}
use Rattle.instruction.specs.Fitness.{Fit, Starts, ServiceAt, is_exit, Known}
use Rattle.instruction.proofs.FitPlaces.{LeadsFrom, leads, leads_listed}
use Rattle.instruction.proofs.FitRecords.{FitWrites, Leaves, accessed_leaves, service_leaves}

known : (f : Fault) → Known (fault_number f)
known NoBase = omega arith
known PastRam = omega arith
known OffExternalPage = omega arith
known PastStack = omega arith
known LowStack = omega arith
known PastPage = omega arith
known OutsideWindow = omega arith

-- ---- each way to go on or to exit

module _ (setting : Setting) (r : Record) (ram : List ℕ) (f : Fit setting r ram) where
  abbrev program : Program
  program = setting.program

  abbrev page : List ℕ
  page = setting.program.page

  abbrev Kept : Effect → Type 0
  Kept = Keeps (Fit setting) (ServiceAt program r) Known

  -- what was written, at a fit place
  fit_at : (w : Writes) (after : List ℕ) (place : ℕ) → Leaves (length setting.external) (does w after) → fit_place program place ≡ true
      → Fit setting (applied r w place) after
  unfolding fit_record applied
  fit_at w after place h p = record { record_fits = h.0; place_fits = p; ram_fits = h.1 }

  end_kept : (end : Record → List ℕ → Effect) → ((s : Record) (after : List ℕ) → Fit setting s after → Kept (end s after))
      → (place : ℕ) (o : Outcome) → Leaves (length setting.external) o → fit_place program place ≡ true → Kept (end_at end r place o)
  unfolding end_at
  end_kept end k place (does w after) h p = k _ _ (fit_at w after place h p)
  end_kept end k place (fails fault) h p = known fault

  fit_writes : FitWrites (length setting.external) (writes_nothing r)
  unfolding fit_record
  fit_writes = f.record_fits

  -- a branch only moves
  moved_lem : (place : ℕ) → fit_place program place ≡ true → Fit setting (with_place r place) ram
  unfolding fit_record with_place
  moved_lem place p = record { record_fits = f.record_fits; place_fits = p; ram_fits = f.ram_fits }

  branch_kept : (t : Option ℕ) → LeadsFrom program r.place (flow_by true (jump_to t)) → Kept (branch_to r ram t)
  unfolding branch_to
  branch_kept None h = absurd h
  branch_kept (Some b) h = moved_lem (2 * b) h

  if_kept : (taken : Bool) (t : Option ℕ) → LeadsFrom program r.place (flow_by false (jump_to t))
      → Kept (branch_if taken r ram (following page r.place) t)
  unfolding branch_if branch_to
  if_kept taken None h = absurd h
  if_kept true (Some b) h = moved_lem (2 * b) h.0
  if_kept false (Some b) h = moved_lem (following page r.place) h.1

  -- ---- a service, by how it ends

  exits_here : (n : ℕ) → instruction_at program r.place ≡ instruction.Service n → is_exit (ending_in program n) ≡ true
      → ServiceAt program r (exit_of page n)
  exits_here n s e = record { low = n; stands = s; reports = refl; column = e }

  service_kept : (n : ℕ) → instruction_at program r.place ≡ instruction.Service n
      → (e : Ending) → ending_in program n ≡ e → LeadsFrom program r.place (flow_by (ends_flow e) (service_jump e))
      → (o : Outcome) → Leaves (length setting.external) o
      → Kept (served_by e (exit_of page n) r (following page r.place) o)
  unfolding served_by
  service_kept n s ending.GoesOn e h o l = end_kept goes_on (λ _ _ k. k) (following page r.place) o l h
  service_kept n s ending.Exit e h o l =
      end_kept (exits (exit_of page n)) (λ _ _ k. (k, exits_here n s (ap is_exit e))) (following page r.place) o l h
  service_kept n s ending.LastExit e h o l =
      end_kept (exits (exit_of page n)) (λ _ _ k. (k, exits_here n s (ap is_exit e))) r.place o l f.place_fits
  service_kept n s ending.Bad e h o l = absurd h

  -- ---- every instruction

  each_kept : (i : Instruction) → instruction_at program r.place ≡ i → LeadsFrom program r.place (flow_of program r.place i)
      → Kept (effect_of setting r ram i)
  unfolding flow_of effect_of served
  each_kept (Data operation) s h =
      end_kept goes_on (λ _ _ k. k) (following page r.place) (does (writes_of operation r) ram)
      (fit_writes, f.ram_fits) h
  each_kept (Memory access) s h =
      end_kept goes_on (λ _ _ k. k) (following page r.place) (accessed page setting.external setting.window access r ram)
      (accessed_leaves (length setting.external) r setting.window ram fit_writes f.ram_fits page setting.external access) h
  each_kept (Cbz imm6 n) s h = if_kept (eqb (register r n) 0) (target_of r.place (pos imm6)) h
  each_kept (Cbnz imm6 n) s h = if_kept (not (eqb (register r n) 0)) (target_of r.place (pos imm6)) h
  each_kept (Bcc condition imm8) s h = if_kept (condition_holds condition r.flags) (target_of r.place (SInt 8 imm8)) h
  each_kept (B imm11) s h = branch_kept (target_of r.place (SInt 11 (bits imm11 10 0))) h
  each_kept (instruction.Service n) s h =
      service_kept n s (ending_in program n) refl h (service_does (length setting.external) setting.window (service_of page n) r ram)
      (service_leaves (length setting.external) r setting.window ram fit_writes f.ram_fits (service_of page n))
  each_kept Unlisted s h = absurd h

pub keeps : (setting : Setting) → decision (program_rules setting.program) ≡ accepted → (r : Record) (ram : List ℕ)
    → Fit setting r ram → Keeps (Fit setting) (ServiceAt setting.program r) Known (instruction_of setting r ram)
unfolding instruction_of
keeps setting e r ram f =
    each_kept setting r ram f (instruction_at setting.program r.place) refl (leads setting.program e r.place f.place_fits)

pub starts : (setting : Setting) → decision (program_rules setting.program) ≡ accepted → (r : Record) (ram : List ℕ) → Fit setting r ram
    → Starts setting.program r
starts setting e r ram f = record {
  place_fits = f.place_fits;
  is_listed = leads_listed setting.program r.place (instruction_at setting.program r.place)
      (leads setting.program e r.place f.place_fits);
}
