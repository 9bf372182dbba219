-- The numbers of thirteen values, and the values of thirteen numbers.
use Prim.Native.Nat.{ℕ, zero, suc, ◌-◌, ◌*◌, ◌/◌, ◌%◌, ◌^◌, ◌<◌, ◌≤◌}
use mathlib.Core.Path.{◌≡◌, refl, sym, ap, ◌∙◌}
use mathlib.Core.Bool.{Bool, true, false, not, ◌||◌, true≢false}
use mathlib.Core.List.{List, [], ◌∷◌}
use native.Mathlib.Decide.{ℕ_discrete}
use native.Mathlib.Nat.{le_of_suc-le-suc}
use native.Mathlib.Omega.{arith}
use lib.Dec.{eqb, ltb}
use lib.ListN.{length, get_or, set}
use borrow.Author.Tests.{not-true, ne_eqb}
use Rattle.laws.proofs.Runs.{run_lem}
use Rattle.layout.specs.StoredForm.{Short, as_is, in_words, unless_none, Field, stored_form, field_at}
use Rattle.layout.proofs.Fields.{whole}
use Rattle.short_layout.specs.ShortForm.{number_for, value_for, each_field, numbers_for, values_for}
use Rattle.short_form.specs.ShortStoring.{within_field}

-- ---- any fields

pub length_each : (g : Short → ℕ → ℕ) (fields : List Field) (xs : List ℕ) → length xs ≡ length fields → length (each_field g fields xs) ≡ length fields
unfolding each_field
length_each g [] xs l = refl
length_each g (f ∷ fields) [] l = absurd (omega arith)
length_each g (f ∷ fields) (x ∷ xs) l = ap suc (length_each g fields xs (omega arith))

pub at_field : (g : Short → ℕ → ℕ) (fields : List Field) (xs : List ℕ) (i : ℕ) → i < length fields → i < length xs
    → get_or (each_field g fields xs) i 0 ≡ g (field_at fields i).short (get_or xs i 0)
unfolding each_field
at_field g [] xs i l m = absurd (omega arith)
at_field g (f ∷ fields) [] i l m = absurd (omega arith)
at_field g (f ∷ fields) (x ∷ xs) zero l m = refl
at_field g (f ∷ fields) (x ∷ xs) (suc i) l m = at_field g fields xs i (le_of_suc-le-suc l) (le_of_suc-le-suc m)

-- there and back
each_back : (g h : Short → ℕ → ℕ) (fields : List Field) (xs : List ℕ) → length xs ≡ length fields
    → ((i : ℕ) → i < length fields → h (field_at fields i).short (g (field_at fields i).short (get_or xs i 0)) ≡ get_or xs i 0)
    → each_field h fields (each_field g fields xs) ≡ xs
unfolding each_field
each_back g h [] [] l back = refl
each_back g h [] (x ∷ xs) l back = absurd (omega arith)
each_back g h (f ∷ fields) [] l back = absurd (omega arith)
each_back g h (f ∷ fields) (x ∷ xs) l back = rw (back 0 (omega arith), each_back g h fields xs (omega arith) (λ i m. back (suc i) (omega arith)))

-- ---- the fields of the stored form

abbrev is_in_words : Short → Bool
is_in_words as_is = false
is_in_words in_words = true
is_in_words unless_none = false

as_is_lem : (s : Short) → is_in_words s ≡ false → (width x : ℕ) → (number_for s x ≡ x) × (value_for s x ≡ x) × (within_field s width x ≡ ltb x (256 ^ width))
as_is_lem as_is t width x = (refl, refl, refl)
as_is_lem in_words t width x = absurd (true≢false t)
as_is_lem unless_none t width x = (refl, refl, refl)

-- all but SP stand as they are
pub as_they_are : (i : ℕ) → i < 13 → (i ≡ 8 → ⊥) → (width x : ℕ)
    → (number_for (field_at stored_form i).short x ≡ x) × (value_for (field_at stored_form i).short x ≡ x) × (within_field (field_at stored_form i).short width x ≡ ltb x (256 ^ width))
as_they_are i l n width x =
    let tested = run_lem (λ k. eqb k 8 || not (is_in_words (field_at stored_form k).short)) 0 13 refl i (omega arith) (omega arith) in
    as_is_lem (field_at stored_form i).short (not-true _ (rw (ne_eqb i 8 n) at tested)) width x

module _ (xs : List ℕ) (l : length xs ≡ 13) where
  pub values_back : get_or xs 8 0 ≤ 0x18000 → get_or xs 8 0 % 4 ≡ 0 → values_for (numbers_for xs) ≡ xs
  unfolding values_for numbers_for
  values_back top aligned = each_back number_for value_for stored_form xs l λ i m. elim (ℕ_discrete i 8) [
    | yes e ↦ rw e (omega arith)
    | no n ↦ rw ((as_they_are i m n 0 (get_or xs i 0)).0, (as_they_are i m n 0 (get_or xs i 0)).1)
  ]

  pub numbers_back : get_or xs 8 0 ≤ 8192 → numbers_for (values_for xs) ≡ xs
  unfolding values_for numbers_for
  numbers_back h = each_back value_for number_for stored_form xs l λ i m. elim (ℕ_discrete i 8) [
    | yes e ↦ rw e (omega arith)
    | no n ↦ rw ((as_they_are i m n 0 (get_or xs i 0)).1, (as_they_are i m n 0 (get_or xs i 0)).0)
  ]

  -- as the code makes them
  pub numbers_set : set xs 8 ((0x18000 - get_or xs 8 0) / 4) ≡ numbers_for xs
  unfolding numbers_for each_field
  numbers_set = ap (λ (ys : List ℕ). set ys 8 ((0x18000 - get_or ys 8 0) / 4)) (sym (whole 13 xs l)) ∙ ap numbers_for (whole 13 xs l)

  pub values_set : set xs 8 (0x18000 - 4 * get_or xs 8 0) ≡ values_for xs
  unfolding values_for each_field
  values_set = ap (λ (ys : List ℕ). set ys 8 (0x18000 - 4 * get_or ys 8 0)) (sym (whole 13 xs l)) ∙ ap values_for (whole 13 xs l)
