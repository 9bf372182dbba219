-- The largest successor is enough for the count; lists made by inserting are ascending, without repeats.
use Prim.Native.Nat.{ℕ, suc, ◌≤◌, ◌<◌, max}
use native.Mathlib.Omega.{arith}
use mathlib.Core.Path.{◌≡◌, refl, sym, ap, ◌∙◌}
use mathlib.Core.Bool.{Bool, true, false, cond}
use mathlib.Core.List.{List, [], ◌∷◌}
use lib.Dec.{ltb, eqb}
use lib.ListN.{length}
use borrow.Author.Tests.{ltb-true, ltb-false, eqb-true, eqb-false}
use Rattle.prefix.specs.Prefix.{Successors, bad, goes, AllBelow, within}
use Rattle.prefix.specs.LargestSuccessor.{Reading, bad_bundle, no_successor, largest, largest_of, largest_successor, Above, Ascending, insert, with_successor}
use Rattle.prefix.proofs.Theorems.{largest_within}

-- ---- within a bound, by the largest successor

abbrev pub reading_within : ℕ → Reading → Bool
reading_within m bad_bundle = false
reading_within m no_successor = true
reading_within m (largest s) = ltb s m

within_largest : (m : ℕ) (x : Successors) → within m x ≡ reading_within m (largest_successor x)
within_largest m bad = refl
within_largest m (goes []) = refl
within_largest m (goes (s ∷ ss)) = largest_within m s ss

pub bound_by : (bound k b : ℕ) (a : Reading) → b ≡ cond (reading_within bound a) bound k
    → (x : Successors) → a ≡ largest_successor x → b ≡ cond (within bound x) bound k
bound_by bound k b a e x h = e ∙ ap (λ (t : Bool). cond t bound k) (ap (reading_within bound) h ∙ sym (within_largest bound x))

-- ---- one successor more, by the largest

abbrev pub raised : Reading → ℕ → Reading
raised bad_bundle s = bad_bundle
raised no_successor s = largest s
raised (largest t) s = largest (max t s)

largest_max : (a b : ℕ) (ss : List ℕ) → largest_of (max a b) ss ≡ max a (largest_of b ss)
largest_max a b [] = refl
largest_max a b (s ∷ ss) = let e : max (max a b) s ≡ max a (max b s) = omega arith in rw e (largest_max a (max b s) ss)

largest_le : (a : ℕ) (ss : List ℕ) → a ≤ largest_of a ss
largest_le a [] = omega arith
largest_le a (s ∷ ss) = omega (arith, largest_le (max a s) ss)

-- by the test of s against t: before it, equal to it, or behind it
by_order : (P : List ℕ → Type 0) (s t : ℕ) {a b c : List ℕ} → (s < t → P a) → (s ≡ t → P b) → (t < s → P c)
    → P (cond (ltb s t) a (cond (eqb s t) b c))
by_order P s t {a} {b} {c} p q r = go (ltb s t) (eqb s t) refl refl
  where
    go : (l e : Bool) → ltb s t ≡ l → eqb s t ≡ e → P (cond l a (cond e b c))
    go true e h i = p (ltb-true s t h)
    go false true h i = q (eqb-true s t i)
    go false false h i = let d = eqb-false s t i in r (omega (arith, ltb-false s t h))

insert_largest : (a s : ℕ) (ss : List ℕ) → largest_of a (insert s ss) ≡ max (largest_of a ss) s
insert_largest a s [] = refl
insert_largest a s (t ∷ ts) =
    by_order (λ l. largest_of a l ≡ max (largest_of (max a t) ts) s) s t
    (λ l. ap (λ (n : ℕ). largest_of n ts) (omega arith) ∙ largest_max s (max a t) ts ∙ omega arith)
    (λ e. omega (arith, largest_le (max a t) ts))
    (λ l. insert_largest (max a t) s ts)

largest_inserted : (s : ℕ) (x : Successors) → raised (largest_successor x) s ≡ largest_successor (with_successor x s)
largest_inserted s bad = refl
largest_inserted s (goes []) = refl
largest_inserted s (goes (t ∷ ts)) =
    by_order (λ l. largest (max (largest_of t ts) s) ≡ largest_successor (goes l)) s t
    (λ l. ap largest (sym (largest_max s t ts ∙ omega arith)))
    (λ e. ap largest (omega (arith, largest_le t ts)))
    (λ l. ap largest (sym (insert_largest t s ts)))

pub raised_by : (s : ℕ) (a b : Reading) → b ≡ raised a s
    → (x : Successors) → a ≡ largest_successor x → b ≡ largest_successor (with_successor x s)
raised_by s a b e x h = e ∙ ap (λ (c : Reading). raised c s) h ∙ largest_inserted s x

-- ---- lists made by inserting are ascending, without repeats

insert_above : (a s : ℕ) (ss : List ℕ) → a < s → Above a ss → Above a (insert s ss)
insert_above a s [] l h = l
insert_above a s (t ∷ ts) l h = by_order (Above a) s t (λ b. l) (λ e. h) (λ b. h)

pub insert_ascending : (s : ℕ) (ss : List ℕ) → Ascending ss → Ascending (insert s ss)
insert_ascending s [] h = (tt, tt)
insert_ascending s (t ∷ ts) h =
    by_order Ascending s t (λ l. (l, h)) (λ e. h) (λ l. (insert_above t s ts l h.0, insert_ascending s ts h.1))

pub insert_length : (s : ℕ) (ss : List ℕ) → length (insert s ss) ≤ suc (length ss)
insert_length s [] = omega arith
insert_length s (t ∷ ts) =
    by_order (λ l. length l ≤ suc (suc (length ts))) s t (λ l. omega arith) (λ e. omega arith) (λ l. omega (arith, insert_length s ts))

pub insert_below : (m s : ℕ) (ss : List ℕ) → AllBelow m (insert s ss) → (s < m) × AllBelow m ss
insert_below m s [] h = h
insert_below m s (t ∷ ts) h =
    by_order (λ l. AllBelow m l → (s < m) × AllBelow m (t ∷ ts)) s t (λ l h. h) (λ e h. (omega (arith, e, h.0), h))
    (λ l h. let rest = insert_below m s ts h.1 in (rest.0, (h.0, rest.1))) h
