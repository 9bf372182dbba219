-- A rule over a run of numbers, proved by one test that antt computes; and a number that is no key of a match.
use mathlib.Core.Path.{◌≡◌, sym}
use mathlib.Core.Bool.{Bool, true, false, ◌&&◌, ◌||◌, true≢false}
use mathlib.Core.List.{List, [], ◌∷◌}
use mathlib.Core.Logic.{inl, inr, ⊎_elim}
use Prim.Native.Nat.{ℕ, zero, suc, ◌+◌, ◌-◌, ◌≤◌, ◌<◌}
use native.Mathlib.Nat.{le_of_suc-le-suc, not-suc-le-zero}
use native.Mathlib.Omega.{arith}
use lib.Dec.{eqb}
use borrow.Author.Tests.{eqb-true}
use types.Run.{OneOf}
use Rattle.laws.proofs.Tests.{both, either}

-- f holds at n numbers from i
abbrev pub every : (ℕ → Bool) → ℕ → ℕ → Bool
every f i zero = true
every f i (suc n) = f i && every f (suc i) n

from : (f : ℕ → Bool) (n i : ℕ) → every f i n ≡ true → (d : ℕ) → d < n → f (d + i) ≡ true
from f zero i t d h = absurd (not-suc-le-zero h)
from f (suc n) i t zero h = let e : 0 + i ≡ i = omega arith in rw e (both (f i) (every f (suc i) n) t).0
from f (suc n) i t (suc d) h =
    let e : suc d + i ≡ d + suc i = omega arith in
    rw e (from f n (suc i) (both (f i) (every f (suc i) n) t).1 d (le_of_suc-le-suc h))

pub run_lem : (f : ℕ → Bool) (i n : ℕ) → every f i n ≡ true → (k : ℕ) → i ≤ k → k < i + n → f k ≡ true
run_lem f i n t k l u = let e : (k - i) + i ≡ k = omega arith in rw e at (from f n i t (k - i) (omega arith))

-- ---- the `_` arm of a match on a number

-- the arms are 0, 1, .. m - 1: the number is at least m
abbrev pub None : ℕ → ℕ → Type 0
None zero k = Unit {0}
None (suc m) k = None m k × (k ≡ m → ⊥)

pub past : (m : ℕ) {k : ℕ} → None m k → m ≤ k
past zero n = omega arith
past (suc m) n = next (past m n.0) n.1
  where
    next : {m k : ℕ} → m ≤ k → (k ≡ m → ⊥) → suc m ≤ k
    next h e = omega arith

-- any arms, the last one first: the number is none of their keys
abbrev pub NoneOf : List (List ℕ) → ℕ → Type 0
NoneOf [] n = Unit {0}
NoneOf (keys ∷ arms) n = NoneOf arms n × (OneOf keys n → ⊥)

abbrev pub is_key : List ℕ → ℕ → Bool
is_key [] n = false
is_key (k ∷ keys) n = eqb n k || is_key keys n

abbrev pub is_in : List (List ℕ) → ℕ → Bool
is_in [] n = false
is_in (keys ∷ arms) n = is_key keys n || is_in arms n

key : (keys : List ℕ) (n : ℕ) → is_key keys n ≡ true → OneOf keys n
key [] n e = true≢false (sym e)
key (k ∷ []) n e = ⊎_elim (λ h. eqb-true n k h) (λ h. absurd (true≢false (sym h))) (either (eqb n k) false e)
key (k ∷ j ∷ keys) n e =
    ⊎_elim (λ h. inl (eqb-true n k h)) (λ h. inr (key (j ∷ keys) n h)) (either (eqb n k) (is_key (j ∷ keys) n) e)

pub no_key : (arms : List (List ℕ)) (n : ℕ) → NoneOf arms n → is_in arms n ≡ true → ⊥
no_key [] n none e = true≢false (sym e)
no_key (keys ∷ arms) n none e =
    ⊎_elim (λ h. none.1 (key keys n h)) (λ h. no_key arms n none.0 h) (either (is_key keys n) (is_in arms n) e)
