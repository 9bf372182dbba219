-- An instruction by two windows and in two related RAMs has the same effect.
use Rattle.std.specs.Prelude.{Option, Some, None}
use Prim.Native.Nat.{ℕ, ◌*◌}
use mathlib.Core.Bool.{Bool, true, false}
use mathlib.Core.List.{List}
use mathlib.Core.Path.{refl, ap}
use lib.ListN.{length}
use Rattle.isa.specs.declared.Instruction.{Instruction}
use Rattle.isa.specs.declared.Instruction.TheVariants.{Data, Memory, Cbz, Cbnz, Bcc, B, Service, Unlisted}
use Rattle.service.specs.Services.{service_of}
use Rattle.ending.specs.Endings.{ending_in}
use Rattle.ending.specs.declared.Ending.{Ending}
use Rattle.ending.specs.declared.Ending.TheVariants as ending
use Rattle.window.specs.declared.Window.{Window}
use Rattle.platform.specs.Programs.{Program, setting_of}
use Rattle.memory.proofs.Alike.{both, alike_map, Related}
use Rattle.state.specs.Record.{with_place}
use Rattle.state.specs.declared.Record.{Record}
use Rattle.access.specs.Outcomes.{Outcome, fails}
use Rattle.access.proofs.Alike.{BothDone, OutcomesAlike, still, accesses_alike}
use Rattle.effects.proofs.Alike.{services_alike}
use Rattle.stop.specs.Stops.{Exit}
use Rattle.plain.specs.PlainMachine.{Effect, goes_on, exits, faults}
use Rattle.plain.proofs.Alike.{BothEffects, go_on, exit, mark, EffectsAlike}
use Rattle.place.specs.Places.{instruction_at, following}
use Rattle.instruction.specs.Instructions.{end_at, branch_to, branch_if, exit_of, served_by, served, effect_of, instruction_of}

module _ (w v : Window) (S : List ℕ → List ℕ → Type 0) (h : Related w v S) (r : Record) (a b : List ℕ) (s : S a b) where
  abbrev Same : Effect → Effect → Type 0
  Same = EffectsAlike w v S

  abbrev SameOutcomes : Outcome → Outcome → Type 0
  SameOutcomes = OutcomesAlike w v S

  -- what was done goes on, or exits, at a place
  goes_on_lem : (place : ℕ) (x y : Outcome) → SameOutcomes x y → Same (end_at goes_on r place x) (end_at goes_on r place y)
  unfolding end_at
  goes_on_lem place =
      alike_map w v fails faults (BothDone S) (BothEffects S) (end_at goes_on r place) (end_at goes_on r place) (λ e. refl) (λ e. refl)
      (λ x y d. go_on _ d.1 d.2 (ap (end_at goes_on r place) d.3) (ap (end_at goes_on r place) d.4) d.5)

  exits_so : (e : Exit) (place : ℕ) (x y : Outcome) → SameOutcomes x y → Same (end_at (exits e) r place x) (end_at (exits e) r place y)
  unfolding end_at
  exits_so e place =
      alike_map w v fails faults (BothDone S) (BothEffects S) (end_at (exits e) r place) (end_at (exits e) r place) (λ f. refl) (λ f. refl)
      (λ x y d. exit e _ d.1 d.2 (ap (end_at (exits e) r place) d.3) (ap (end_at (exits e) r place) d.4) d.5)

  moves : (place : ℕ) → Same (goes_on (with_place r place) a) (goes_on (with_place r place) b)
  moves place = both (go_on (with_place r place) a b refl refl s)

  branches : (t : Option ℕ) → Same (branch_to r a t) (branch_to r b t)
  unfolding branch_to
  branches None = both (mark refl refl)
  branches (Some k) = moves (2 * k)

  branches_if : (taken : Bool) (next : ℕ) (t : Option ℕ) → Same (branch_if taken r a next t) (branch_if taken r b next t)
  unfolding branch_if
  branches_if true next t = branches t
  branches_if false next t = moves next

  serves : (end : Ending) (e : Exit) (next : ℕ) (x y : Outcome) → SameOutcomes x y → Same (served_by end e r next x) (served_by end e r next y)
  unfolding served_by
  serves ending.GoesOn e next x y o = goes_on_lem next x y o
  serves ending.Exit e next x y o = exits_so e next x y o
  serves ending.LastExit e next x y o = exits_so e r.place x y o
  serves ending.Bad e next x y o = both (mark refl refl)

  module _ (program : Program) (external : List ℕ) where
    effects-alike : (i : Instruction) → Same (effect_of (setting_of program external w) r a i) (effect_of (setting_of program external v) r b i)
    unfolding effect_of served
    effects-alike (Data operation) = goes_on_lem (following program.page r.place) _ _ (still w v S h r a b s _)
    effects-alike (Memory access) =
        goes_on_lem (following program.page r.place) _ _ (accesses_alike w v S h r a b s program.page external access)
    effects-alike (Cbz imm6 n) = branches_if _ _ _
    effects-alike (Cbnz imm6 n) = branches_if _ _ _
    effects-alike (Bcc condition imm8) = branches_if _ _ _
    effects-alike (B imm11) = branches _
    effects-alike (Service n) =
        serves (ending_in program n) (exit_of program.page n) (following program.page r.place) _ _
        (services_alike w v S h r a b s (length external) (service_of program.page n))
    effects-alike Unlisted = both (mark refl refl)

    pub instructions_alike : Same (instruction_of (setting_of program external w) r a) (instruction_of (setting_of program external v) r b)
    unfolding instruction_of
    instructions_alike = effects-alike (instruction_at program r.place)
