-- Calls keep to their window, the code's and any others of the build paper's machine that meet their contract.
use Prim.Native.Nat.{ℕ}
use mathlib.Core.List.{List}
use mathlib.Core.Path.{◌≡◌, refl}
use lib.ListN.{length}
use Rattle.window.specs.Windows.{EqualOutside}
use Rattle.window.specs.declared.Window.{Window}
use Rattle.window.proofs.Rams.{equal_same}
use Rattle.platform.specs.Programs.{Setting}
use Rattle.memory.proofs.Alike.{both}
use Rattle.memory.proofs.Alike as alike
use Rattle.memory.proofs.Windows.{equal_inside, stays_outside}
use Rattle.state.specs.declared.Record.{Record}
use Rattle.plain.specs.PlainMachine.{Effect}
use Rattle.plain.proofs.Alike.{go_on, exit, mark, EffectsAlike}
use Rattle.plain.proofs.Runs.{Leaves}
use Rattle.series.specs.Windows.{KeepsToWindow}
use Rattle.series.proofs.Windows.{WithinWindow, keeps_to_window}
use Rattle.instruction.specs.Instructions.{instruction_of}
use Rattle.instruction.proofs.Windows.{instructions_alike}
use Rattle.admission.specs.RunRefusals.{run_decision}
use Rattle.claims.proofs.Machines.{code_keeps}
use Rattle.claims.specs.Demand3.{lone_page, CodeCall, handed_to, gave_by, machine}

-- what is kept in two RAMs that are one
leaves : (w : Window) (P : List ℕ → Type 0) (e : Effect) → EffectsAlike w w (λ a b. (a ≡ b) × P a) e e → Leaves (λ s after. P after) e
leaves w P e (both (go_on r a b p q h)) = rw p h.1
leaves w P e (both (exit x r a b p q h)) = rw p h.1
leaves w P e (both (mark p q)) = rw p tt
leaves w P e (alike.fault f n p q) = rw p tt
leaves w P e (alike.outside at bytes i j p q) = rw p tt

writes_inside : (setting : Setting) (r : Record) (ram : List ℕ)
    → Leaves (λ s after. EqualOutside setting.window ram after) (instruction_of setting r ram)
writes_inside setting r ram =
    let w = setting.window in
    leaves w (EqualOutside w ram) (instruction_of setting r ram)
    (instructions_alike w w (λ a b. (a ≡ b) × EqualOutside w ram a) (stays_outside w ram) r ram ram (refl, equal_same _ ram)
    setting.program setting.external)

by_length : (setting : Setting) (r : Record) (a b : List ℕ) → length a ≡ length b → run_decision setting r a ≡ run_decision setting r b
unfolding run_decision
by_length setting r a b e = rw e

pub within_window : WithinWindow lone_page
within_window = record {
  reads_inside = λ s r a b e.
      instructions_alike s.window s.window _ (equal_inside s.window) r a b e s.program s.external;
  writes_inside = writes_inside;
  refuses_by_length = by_length;
}

-- of `run` and `step`, with any setting
pub code_keeps_to_window : (setting : Setting) → KeepsToWindow (machine setting)
code_keeps_to_window setting = keeps_to_window lone_page within_window CodeCall handed_to gave_by setting (code_keeps setting)
