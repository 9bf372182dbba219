-- With all of RAM as its window every answer without windows holds.
use Rattle.std.specs.Prelude.{Ok, Err}
use Prim.Native.Nat.{ℕ}
use native.Mathlib.Omega.{arith}
use mathlib.Core.Bool.{Bool, true, false, cond, true≢false}
use mathlib.Core.List.{List}
use mathlib.Core.Path.{◌≡◌, refl, sym, ap, ◌∙◌}
use borrow.Author.Tests.{eqb-false}
use Rattle.refusal.specs.Refusals.{Decision, accepted, refused}
use Rattle.endian.specs.LittleEndian.{width_of, load_le, store_le}
use Rattle.endian.specs.declared.Size.{Size}
use Rattle.window.specs.Windows.{whole_ram, window_fits, inside_window}
use Rattle.window.specs.declared.Window.{Window}
use Rattle.platform.specs.Programs.{Setting}
use Rattle.memory.specs.Faults.{fault_number}
use Rattle.memory.specs.Memory.{inside_ram, ram_access, loaded_if, ram_loaded, after_if, ram_after}
use Rattle.memory.specs.declared.Fault.{Fault}
use Rattle.memory.specs.declared.Fault.TheVariants.{OutsideWindow}
use Rattle.memory.proofs.Ram.{whole_window}
use Rattle.memory.proofs.Alike.{both}
use Rattle.memory.proofs.Alike as alike
use Rattle.memory.proofs.Windows.{inside_whole}
use Rattle.state.specs.declared.Record.{Record}
use Rattle.stop.specs.Stops.{fault}
use Rattle.plain.specs.PlainMachine.{Effect, goes_on, exits, faults, unlisted, Result, plain}
use Rattle.plain.specs.Calls.{call_by}
use Rattle.plain.proofs.Alike.{go_on, exit, mark, EffectsAlike, RunsAlike, equal, outside, runs_alike}
use Rattle.instruction.specs.Instructions.{instruction_of}
use Rattle.instruction.proofs.Windows.{instructions_alike}
use Rattle.admission.specs.RunRefusals.{run_decision}
use Rattle.machine.specs.Runs.{run_of}
use Rattle.claims.specs.WholeWindow.{unwindowed, WholeWindow}

-- ---- an access

stored_whole : (at bytes : ℕ) (past : Fault) → ram_access whole_ram at bytes past ≡ cond (inside_ram at bytes) (Ok tt) (Err past)
unfolding ram_access
stored_whole at bytes past = rw (whole_window at bytes) (go (inside_ram at bytes))
  where
    go : (t : Bool) → cond t (cond t (Ok (tt {0})) (Err OutsideWindow)) (Err past) ≡ cond t (Ok (tt {0})) (Err past)
    go true = refl
    go false = refl

loaded_whole : (ram : List ℕ) (at : ℕ) (size : Size) (past : Fault)
    → ram_loaded whole_ram ram at size past ≡ cond (inside_ram at (width_of size)) (Ok (load_le (width_of size) ram at)) (Err past)
unfolding ram_loaded
loaded_whole ram at size past = rw (stored_whole at (width_of size) past) (go (inside_ram at (width_of size)) (load_le (width_of size) ram at))
  where
    go : (t : Bool) (x : ℕ) → loaded_if (cond t (Ok tt) (Err past)) x ≡ cond t (Ok x) (Err past)
    go true x = refl
    go false x = refl

after_whole : (ram : List ℕ) (at : ℕ) (size : Size) (past : Fault) (x : ℕ)
    → ram_after whole_ram ram at size past x ≡ cond (inside_ram at (width_of size)) (store_le (width_of size) ram at x) ram
unfolding ram_after
after_whole ram at size past x = rw (stored_whole at (width_of size) past) (go (inside_ram at (width_of size)))
  where
    go : (t : Bool) → after_if (cond t (Ok tt) (Err past)) (store_le (width_of size) ram at x) ram ≡ cond t (store_le (width_of size) ram at x) ram
    go true = refl
    go false = refl

-- ---- fault 7 isn't met

-- all of RAM holds what lies in RAM
holds_all : (at bytes : ℕ) → inside_ram at bytes ≡ true → inside_window whole_ram at bytes ≡ false → ⊥
holds_all at bytes i j = true≢false (sym i ∙ sym (whole_window at bytes) ∙ j)

abbrev fault_in : Effect → ℕ
fault_in (goes_on r ram) = 0
fault_in (exits x r ram) = 0
fault_in (faults f) = fault_number f
fault_in unlisted = 0

never : (S : List ℕ → List ℕ → Type 0) (e f : Effect) → EffectsAlike whole_ram whole_ram S e f → e ≡ faults OutsideWindow → ⊥
never S e f (both (go_on r a b p q s)) z = absurd (omega (arith, ap fault_in (sym p ∙ z)))
never S e f (both (exit x r a b p q s)) z = absurd (omega (arith, ap fault_in (sym p ∙ z)))
never S e f (both (mark p q)) z = absurd (omega (arith, ap fault_in (sym p ∙ z)))
never S e f (alike.fault g n p q) z = eqb-false (fault_number g) 7 n (ap fault_in (sym p ∙ z))
never S e f (alike.outside at bytes i j p q) z = holds_all at bytes i j

never_runs : (S : List ℕ → List ℕ → Type 0) (x y : Result) → RunsAlike whole_ram whole_ram S x y → x.stop ≡ fault 7 → ⊥
never_runs S x y (equal not-seven same) z = not-seven z
never_runs S x y (outside at bytes i j seven same) z = holds_all at bytes i j

-- ---- and where it isn't, nothing is different

same_effect : (w v : Window) (e f : Effect) → EffectsAlike w v (λ a b. a ≡ b) e f → (e ≡ faults OutsideWindow → ⊥) → e ≡ f
same_effect w v e f (both (go_on r a b p q s)) z = p ∙ ap (goes_on r) s ∙ sym q
same_effect w v e f (both (exit x r a b p q s)) z = p ∙ ap (exits x r) s ∙ sym q
same_effect w v e f (both (mark p q)) z = p ∙ sym q
same_effect w v e f (alike.fault g n p q) z = p ∙ sym q
same_effect w v e f (alike.outside at bytes i j p q) z = absurd (z p)

same_result : (w v : Window) (x y : Result) → RunsAlike w v (λ a b. a ≡ b) x y → (x.stop ≡ fault 7 → ⊥) → x ≡ y
same_result w v x y (equal not-seven same) z = λ i. record { stop = same.stop i; steps = same.steps i; rec = same.rec i; ram = same.ram i }
same_result w v x y (outside at bytes i j seven same) z = absurd (z seven)

module _ (setting : Setting) where
  by_whole : (r : Record) (a b : List ℕ) → a ≡ b
      → EffectsAlike setting.window whole_ram (λ x y. x ≡ y) (instruction_of setting r a) (instruction_of (unwindowed setting) r b)
  by_whole r a b e =
      instructions_alike setting.window whole_ram (λ x y. x ≡ y) (inside_whole setting.window) r a b e setting.program setting.external

  runs_by_whole : (total : ℕ) (r : Record) (ram : List ℕ)
      → RunsAlike setting.window whole_ram (λ x y. x ≡ y) (plain (instruction_of setting) total 0 r ram) (plain (instruction_of (unwindowed setting)) total 0 r ram)
  runs_by_whole total r ram =
      runs_alike setting.window whole_ram (λ x y. x ≡ y) (instruction_of setting) (instruction_of (unwindowed setting)) by_whole total 0 r ram ram refl

never_stops : (setting : Setting) (total : ℕ) (r : Record) (ram : List ℕ) → (run_of (unwindowed setting) total r ram).stop ≡ fault 7 → ⊥
never_stops setting total r ram = go (run_decision (unwindowed setting) r ram)
  where
    go : (d : Decision) → (call_by d (instruction_of (unwindowed setting)) total r ram).stop ≡ fault 7 → ⊥
    go accepted z = never_runs (λ x y. x ≡ y) _ _ (runs_by_whole (unwindowed setting) total r ram) z
    go (refused n values) z = true≢false cc

same_decision : (setting : Setting) (r : Record) (ram : List ℕ) → window_fits setting.window ≡ true
    → run_decision (unwindowed setting) r ram ≡ run_decision setting r ram
unfolding run_decision
same_decision setting r ram e = rw e

same_run : (setting : Setting) (total : ℕ) (r : Record) (ram : List ℕ) → window_fits setting.window ≡ true
    → ((run_of setting total r ram).stop ≡ fault 7 → ⊥) → run_of setting total r ram ≡ run_of (unwindowed setting) total r ram
same_run setting total r ram e z = rw (same_decision setting r ram e) (go (run_decision setting r ram) z)
  where
    go : (d : Decision) → ((call_by d (instruction_of setting) total r ram).stop ≡ fault 7 → ⊥)
        → call_by d (instruction_of setting) total r ram ≡ call_by d (instruction_of (unwindowed setting)) total r ram
    go accepted y = same_result setting.window whole_ram _ _ (runs_by_whole setting total r ram) y
    go (refused n values) y = refl

pub whole_ram_lem : WholeWindow
unfolding run_decision
whole_ram_lem = record {
  loads = loaded_whole;
  stores = λ at size past. stored_whole at (width_of size) past;
  after = after_whole;
  refusals = λ setting r ram. refl;
  never_met = λ setting r ram. never (λ x y. x ≡ y) _ _ (by_whole (unwindowed setting) r ram ram refl);
  never_stops = never_stops;
  instructions = λ setting r ram. same_effect setting.window whole_ram _ _ (by_whole setting r ram ram refl);
  runs = same_run;
}
