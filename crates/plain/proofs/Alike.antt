-- Runs by two definitions of an instruction that are alike, in two related RAMs, end alike.
use Prim.Native.Nat.{ℕ, zero, suc, ◌+◌}
use mathlib.Core.Bool.{true, false}
use mathlib.Core.List.{List}
use mathlib.Core.Path.{◌≡◌, refl, ap}
use lib.Dec.{eqb}
use borrow.Author.Tests.{eqb-false}
use Rattle.window.specs.Windows.{inside_window}
use Rattle.window.specs.declared.Window.{Window}
use Rattle.memory.specs.Faults.{fault_number}
use Rattle.memory.specs.Memory.{inside_ram}
use Rattle.memory.proofs.Alike.{Alike, both}
use Rattle.memory.proofs.Alike as alike
use Rattle.state.specs.declared.Record.{Record}
use Rattle.stop.specs.Stops.{Reason, Exit, budget, service, fault, refused}
use Rattle.stop.specs.Stops as stops
use Rattle.plain.specs.PlainMachine.{Effect, goes_on, exits, faults, unlisted, Result, onward, plain}
use Rattle.plain.specs.EqualBut.{EqualBut}

-- the same effect, but for the RAMs
pub data BothEffects (S : List ℕ → List ℕ → Type 0) (e f : Effect) : Type 0 where
  go_on : (r : Record) (a b : List ℕ) → e ≡ goes_on r a → f ≡ goes_on r b → S a b → BothEffects S e f
  exit : (x : Exit) (r : Record) (a b : List ℕ) → e ≡ exits x r a → f ≡ exits x r b → S a b → BothEffects S e f
  mark : e ≡ unlisted → f ≡ unlisted → BothEffects S e f

abbrev pub EffectsAlike : Window → Window → (List ℕ → List ℕ → Type 0) → Effect → Effect → Type 0
EffectsAlike w v S = Alike w v faults (BothEffects S)

-- two runs are equal but for the RAMs; or the first met fault 7, which the second meets too if its window doesn't hold that access
pub data RunsAlike (w v : Window) (S : List ℕ → List ℕ → Type 0) (x y : Result) : Type 0 where
  equal : (x.stop ≡ fault 7 → ⊥) → EqualBut S x y → RunsAlike w v S x y
  outside : (at bytes : ℕ) → inside_ram at bytes ≡ true → inside_window w at bytes ≡ false
      → x.stop ≡ fault 7 → (inside_window v at bytes ≡ false → EqualBut S x y) → RunsAlike w v S x y

abbrev number : Reason → ℕ
number budget = 0
number (service x) = 0
number (fault n) = n
number stops.unlisted = 0
number (refused n values) = 0

-- a stop of another number isn't fault 7
not_seven : (why : Reason) → eqb (number why) 7 ≡ false → why ≡ fault 7 → ⊥
not_seven why n e = eqb-false (number why) 7 n (ap number e)

module _ (w v : Window) (S : List ℕ → List ℕ → Type 0) (one other : Record → List ℕ → Effect)
    (same : (r : Record) (a b : List ℕ) → S a b → EffectsAlike w v S (one r a) (other r b)) where
  pub runs_alike : (left steps : ℕ) (r : Record) (a b : List ℕ) → S a b
      → RunsAlike w v S (plain one left steps r a) (plain other left steps r b)
  unfolding plain
  runs_alike zero steps r a b s = equal (not_seven budget refl) (record { stop = refl; steps = refl; rec = refl; ram = s })
  runs_alike (suc left) steps r a b s =
      go (plain one left (steps + 1)) (plain other left (steps + 1)) (runs_alike left (steps + 1)) (one r a) (other r b) (same r a b s)
    where
      go : (next next' : Record → List ℕ → Result)
          → ((t : Record) (c d : List ℕ) → S c d → RunsAlike w v S (next t c) (next' t d))
          → (e f : Effect) → EffectsAlike w v S e f
          → RunsAlike w v S (onward steps r a next e) (onward steps r b next' f)
      go next next' rest e f (both (go_on t c d p q h)) = rw (p, q) (rest t c d h)
      go next next' rest e f (both (exit x t c d p q h)) =
          rw (p, q) (equal (not_seven (service x) refl) (record { stop = refl; steps = refl; rec = refl; ram = h }))
      go next next' rest e f (both (mark p q)) =
          rw (p, q) (equal (not_seven stops.unlisted refl) (record { stop = refl; steps = refl; rec = refl; ram = s }))
      go next next' rest e f (alike.fault x n p q) =
          rw (p, q) (equal (not_seven (fault (fault_number x)) n) (record { stop = refl; steps = refl; rec = refl; ram = s }))
      go next next' rest e f (alike.outside at bytes i j p q) =
          rw p (outside at bytes i j refl (λ t. rw (q t) (record { stop = refl; steps = refl; rec = refl; ram = s })))
