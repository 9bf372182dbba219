-- Laws of runs, over any definition of an instruction.
use Prim.Native.Nat.{ℕ, zero, suc, ◌+◌, ◌≤◌}
use native.Mathlib.Nat.{add_assoc}
use native.Mathlib.Omega.{arith}
use mathlib.Core.List.{List}
use mathlib.Core.Path.{◌≡◌, refl, ap}
use Rattle.memory.specs.Faults.{fault_number}
use Rattle.memory.specs.declared.Fault.{Fault}
use Rattle.state.specs.declared.Record.{Record}
use Rattle.stop.specs.Stops.{fault}
use Rattle.stop.specs.Stops as stops
use Rattle.plain.specs.PlainMachine.{Effect, goes_on, exits, faults, unlisted, Result, later, onward, plain}

-- what holds of the record and RAM that an instruction leaves, if it leaves others
abbrev pub Leaves : (Record → List ℕ → Type 0) → Effect → Type 0
Leaves P (goes_on r ram) = P r ram
Leaves P (exits exit r ram) = P r ram
Leaves P (faults f) = Unit {0}
Leaves P unlisted = Unit {0}

module _ (instruction : Record → List ℕ → Effect) where
  -- a fault, and an unlisted halfword with its mark, stop and keep record, RAM and steps
  pub fault_keeps : (left steps : ℕ) (r : Record) (ram : List ℕ) (f : Fault) → instruction r ram ≡ faults f
      → plain instruction (suc left) steps r ram ≡ record { stop = fault (fault_number f); steps = steps; rec = r; ram = ram }
  unfolding plain
  fault_keeps left steps r ram f e = rw e

  pub unlisted_keeps : (left steps : ℕ) (r : Record) (ram : List ℕ) → instruction r ram ≡ unlisted
      → plain instruction (suc left) steps r ram ≡ record { stop = stops.unlisted; steps = steps; rec = r; ram = ram }
  unfolding plain
  unlisted_keeps left steps r ram e = rw e

  pub run_later : (before left steps : ℕ) (r : Record) (ram : List ℕ)
      → plain instruction left (before + steps) r ram ≡ later before (plain instruction left steps r ram)
  unfolding plain
  run_later before zero steps r ram = refl
  run_later before (suc left) steps r ram =
      go (λ s after. rw (add_assoc before steps 1) (run_later before left (steps + 1) s after)) (instruction r ram)
    where
      go : ((s : Record) (after : List ℕ)
          → plain instruction left (before + steps + 1) s after ≡ later before (plain instruction left (steps + 1) s after))
          → (e : Effect)
          → onward (before + steps) r ram (plain instruction left (before + steps + 1)) e
          ≡ later before (onward steps r ram (plain instruction left (steps + 1)) e)
      go rest (goes_on s after) = rest s after
      go rest (exits exit s after) = rw (add_assoc before steps 1)
      go rest (faults f) = refl
      go rest unlisted = refl

  -- a run after one step
  run_onward : (left : ℕ) (r : Record) (ram : List ℕ) → plain instruction left 1 r ram ≡ later 1 (plain instruction left 0 r ram)
  run_onward left r ram = run_later 1 left 0 r ram

  -- a run whose first instruction goes on is the rest of it after one step
  pub run_goes_on : (left : ℕ) (r s : Record) (ram after : List ℕ) → instruction r ram ≡ goes_on s after
      → plain instruction (suc left) 0 r ram ≡ later 1 (plain instruction left 0 s after)
  unfolding plain
  run_goes_on left r s ram after e = rw e (run_onward left s after)

  -- a budget up to the steps that a run takes is spent whole
  pub smaller_budget_spent : (left i : ℕ) (r : Record) (ram : List ℕ) → i ≤ (plain instruction left 0 r ram).steps
      → (plain instruction i 0 r ram).steps ≡ i
  unfolding plain
  smaller_budget_spent left zero r ram l = refl
  smaller_budget_spent zero (suc i) r ram l = absurd (omega arith)
  smaller_budget_spent (suc left) (suc i) r ram l = go (smaller_budget_spent left i) (instruction r ram) l
    where
      go : ((s : Record) (after : List ℕ) → i ≤ (plain instruction left 0 s after).steps → (plain instruction i 0 s after).steps ≡ i)
          → (e : Effect) → suc i ≤ (onward 0 r ram (plain instruction left 1) e).steps
          → (onward 0 r ram (plain instruction i 1) e).steps ≡ suc i
      go rest (goes_on s after) l =
          let h = rest s after (omega (arith, ap (λ (x : Result). x.steps) (run_onward left s after))) in
          rw (run_onward i s after) (omega arith)
      go rest (exits exit s after) l = omega arith
      go rest (faults f) l = absurd (omega arith)
      go rest unlisted l = absurd (omega arith)

  -- what every instruction keeps, a run keeps
  pub run_keeps : (P : Record → List ℕ → Type 0) → ((r : Record) (ram : List ℕ) → P r ram → Leaves P (instruction r ram))
      → (left steps : ℕ) (r : Record) (ram : List ℕ) → P r ram
      → P (plain instruction left steps r ram).rec (plain instruction left steps r ram).ram
  unfolding plain
  run_keeps P keeps zero steps r ram h = h
  run_keeps P keeps (suc left) steps r ram h =
      go (plain instruction left (steps + 1)) (run_keeps P keeps left (steps + 1)) (instruction r ram) (keeps r ram h)
    where
      go : (next : Record → List ℕ → Result)
          → ((s : Record) (after : List ℕ) → P s after → P (next s after).rec (next s after).ram)
          → (e : Effect) → Leaves P e → P (onward steps r ram next e).rec (onward steps r ram next e).ram
      go next rest (goes_on s after) l = rest s after l
      go next rest (exits exit s after) l = l
      go next rest (faults f) l = h
      go next rest unlisted l = h
