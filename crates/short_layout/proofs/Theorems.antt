-- Numbers that are written are read back, and bytes that are read are what would be written; each law over any list of fields.
use Prim.Native.Nat.{ℕ, suc, ◌+◌, ◌*◌, ◌^◌, ◌<◌, ◌≤◌}
use mathlib.Core.Path.{◌≡◌, refl, sym, ap, ◌∙◌}
use mathlib.Core.Bool.{Bool, true, false, not, cond, true≢false}
use mathlib.Core.List.{List, [], ◌∷◌, ◌++◌, append_assoc, append-nil}
use native.Mathlib.Decide.{ℕ_discrete}
use native.Mathlib.Omega.{arith}
use lib.Dec.{eqb, lit<}
use lib.ListN.{length, get_or, take, drop, length-append, take-append-drop}
use lib.Seq.{drop-append_seam, get_or-take, get_or-drop}
use borrow.Author.Tests.{not-false, eqb-true}
use Rattle.layout.specs.StoredForm.{Field, stored_form, field_at}
use Rattle.leb128.specs.Leb128.{most_groups, leb128, NumberAnswer, number, cut_off, too_many_groups, not_shortest, read_number}
use Rattle.leb128.proofs.Theorems.{length_most, written_reads, Reads, reads}
use Rattle.short_layout.specs.ShortForm.{is_there, kind_among, field_bytes, bytes_for, Numbers, grouped, not_grouped, field_in, when_read, numbers_behind, numbers_in}
use Rattle.short_layout.proofs.Laws.{always_there}

-- a number for each field, of five groups at most, and 0 where the field is left out
abbrev pub Fitting : List Field → List ℕ → List ℕ → Type 0
Fitting [] before [] = Unit {0}
Fitting [] before (n ∷ numbers) = ⊥
Fitting (f ∷ fields) before [] = ⊥
Fitting (f ∷ fields) before (n ∷ numbers) =
    (n < 128 ^ most_groups) × (is_there f.short (kind_among before) ≡ false → n ≡ 0) × Fitting fields (before ++ (n ∷ [])) numbers

-- field by field
by_field : (fields : List Field) (before numbers : List ℕ) → length numbers ≡ length fields
    → ((i : ℕ) → i < length fields → get_or numbers i 0 < 128 ^ most_groups)
    → ((i : ℕ) → i < length fields → is_there (field_at fields i).short (kind_among (before ++ take i numbers)) ≡ false → get_or numbers i 0 ≡ 0)
    → Fitting fields before numbers
by_field [] before [] l h z = tt
by_field [] before (n ∷ numbers) l h z = absurd (omega arith)
by_field (f ∷ fields) before [] l h z = absurd (omega arith)
by_field (f ∷ fields) before (n ∷ numbers) l h z = (
  h 0 (omega arith),
  rw (append-nil before) at (z 0 (omega arith)),
  by_field fields (before ++ (n ∷ [])) numbers (omega arith) (λ i m. h (suc i) (omega arith)) (λ i m. rw append_assoc (z (suc i) (omega arith))),
)

-- the numbers of the stored form, of 32 bits, the offset of none being 0
pub form_fitting : (numbers : List ℕ) → length numbers ≡ 13 → ((i : ℕ) → i < 13 → get_or numbers i 0 < 2 ^ 32) → (get_or numbers 9 0 ≡ 0 → get_or numbers 10 0 ≡ 0)
    → Fitting stored_form [] numbers
form_fitting numbers l h z = by_field stored_form [] numbers l (λ i m. omega (arith, h i m)) λ i m t. elim (ℕ_discrete i 10) [
  | yes e ↦ rw e (z (none (rw (e, get_or-take 10 numbers 9 0 (omega arith)) at t)))
  | no n ↦ absurd (true≢false (sym (always_there i m n (kind_among (take i numbers))) ∙ t))
]
  where
    none : not (eqb (get_or numbers 9 0) 0) ≡ false → get_or numbers 9 0 ≡ 0
    none t = eqb-true (get_or numbers 9 0) 0 (not-false _ t)

pub fitting_length : (fields : List Field) (before numbers : List ℕ) → Fitting fields before numbers → length numbers ≡ length fields
fitting_length [] before [] fit = refl
fitting_length [] before (n ∷ numbers) fit = absurd fit
fitting_length (f ∷ fields) before [] fit = absurd fit
fitting_length (f ∷ fields) before (n ∷ numbers) fit = ap suc (fitting_length fields (before ++ (n ∷ [])) numbers fit.2)

-- ---- what is written is read back

field_back : (t : Bool) (n : ℕ) (rest : List ℕ) → n < 128 ^ most_groups → (t ≡ false → n ≡ 0)
    → cond t (read_number (cond t (leb128 n) [] ++ rest)) (number 0 0) ≡ number n (length (cond t (leb128 n) []))
unfolding read_number leb128
field_back true n rest h z = written_reads 4 n rest h
field_back false n rest h z = ap (λ (k : ℕ). number k 0) (sym (z refl))

pub written_read : (fields : List Field) (before numbers : List ℕ) → Fitting fields before numbers
    → numbers_behind fields before (bytes_for fields before numbers) ≡ grouped (before ++ numbers)
unfolding numbers_behind bytes_for field_in field_bytes
written_read [] before [] fit = ap grouped (sym (append-nil before))
written_read [] before (n ∷ numbers) fit = absurd fit
written_read (f ∷ fields) before [] fit = absurd fit
written_read (f ∷ fields) before (n ∷ numbers) fit =
    let t = is_there f.short (kind_among before) in
    let rest = bytes_for fields (before ++ (n ∷ [])) numbers in
    rw (field_back t n rest fit.0 fit.1, drop-append_seam (cond t (leb128 n) []) rest, written_read fields (before ++ (n ∷ [])) numbers fit.2, append_assoc)

-- ---- what is read is what would be written

-- numbers that were read from some bytes: those before them, and one for each field, whose bytes are these
abbrev pub ReadFrom : List Field → List ℕ → List ℕ → Numbers → Type 0
ReadFrom fields before bytes (grouped all) =
    (numbers : List ℕ) × (all ≡ before ++ numbers) × Fitting fields before numbers × (bytes_for fields before numbers ≡ bytes)
ReadFrom fields before bytes not_grouped = Unit {0}

-- a field that was read
abbrev ReadField : Bool → List ℕ → NumberAnswer → Type 0
ReadField t bytes (number x n) = (cond t (leb128 x) [] ≡ take n bytes) × (x < 128 ^ most_groups) × (t ≡ false → x ≡ 0)
ReadField t bytes cut_off = Unit {0}
ReadField t bytes too_many_groups = Unit {0}
ReadField t bytes not_shortest = Unit {0}

number_read : (bytes : List ℕ) (a : NumberAnswer) → Reads most_groups bytes a → ReadField true bytes a
unfolding leb128
number_read bytes (number x n) r = (r.0, r.1, λ e. absurd (true≢false e))
number_read bytes cut_off r = tt
number_read bytes too_many_groups r = tt
number_read bytes not_shortest r = tt

field_read : (t : Bool) (bytes : List ℕ) → ((k : ℕ) → get_or bytes k 0 < 256) → ReadField t bytes (cond t (read_number bytes) (number 0 0))
unfolding read_number
field_read true bytes h = number_read bytes (read_number bytes) (reads most_groups bytes h)
field_read false bytes h = (refl, lit< tt, λ e. refl)

module _ (f : Field) (fields : List Field) (before bytes : List ℕ) where
  one_more : (x n : ℕ) (all : Numbers) → ReadField (is_there f.short (kind_among before)) bytes (number x n)
      → ReadFrom fields (before ++ (x ∷ [])) (drop n bytes) all → ReadFrom (f ∷ fields) before bytes all
  unfolding bytes_for field_bytes
  one_more x n (grouped all) field rest = (
    x ∷ rest.0,
    rest.1 ∙ append_assoc before (x ∷ []) rest.0,
    (field.1, field.2, rest.2),
    rw (field.0, rest.3) (take-append-drop n bytes),
  )
  one_more x n not_grouped field rest = tt

  next_field : (a : NumberAnswer) → ReadField (is_there f.short (kind_among before)) bytes a
      → ((x n : ℕ) → ReadFrom fields (before ++ (x ∷ [])) (drop n bytes) (numbers_behind fields (before ++ (x ∷ [])) (drop n bytes)))
      → ReadFrom (f ∷ fields) before bytes (when_read a (λ (x n : ℕ). numbers_behind fields (before ++ (x ∷ [])) (drop n bytes)))
  next_field (number x n) field rest = one_more x n (numbers_behind fields (before ++ (x ∷ [])) (drop n bytes)) field (rest x n)
  next_field cut_off field rest = tt
  next_field too_many_groups field rest = tt
  next_field not_shortest field rest = tt

pub read_from_lem : (fields : List Field) (before bytes : List ℕ) → ((k : ℕ) → get_or bytes k 0 < 256) → ReadFrom fields before bytes (numbers_behind fields before bytes)
unfolding numbers_behind bytes_for field_in
read_from_lem [] before [] h = ([], sym (append-nil before), tt, refl)
read_from_lem [] before (b ∷ bytes) h = tt
read_from_lem (f ∷ fields) before bytes h =
    next_field f fields before bytes (field_in f.short (kind_among before) bytes) (field_read (is_there f.short (kind_among before)) bytes h)
    (λ x n. read_from_lem fields (before ++ (x ∷ [])) (drop n bytes) (λ k. rw get_or-drop (h (n + k))))

-- ---- lengths

-- at most five bytes a field
pub length_most_five : (fields : List Field) (before numbers : List ℕ) → length (bytes_for fields before numbers) ≤ most_groups * length fields
unfolding bytes_for field_bytes leb128
length_most_five [] before numbers = omega arith
length_most_five (f ∷ fields) before [] = omega arith
length_most_five (f ∷ fields) before (n ∷ numbers) =
    rw length-append (omega (arith, most (is_there f.short (kind_among before)), length_most_five fields (before ++ (n ∷ [])) numbers))
  where
    most : (t : Bool) → length (cond t (leb128 n) []) ≤ 5
    most true = length_most 5 n
    most false = omega arith

-- so bytes that are more aren't grouped
pub too_long : (bytes : List ℕ) → ((k : ℕ) → get_or bytes k 0 < 256) → 65 < length bytes → numbers_in bytes ≡ not_grouped
unfolding numbers_in
too_long bytes h l = none (numbers_in bytes) (read_from_lem stored_form [] bytes h)
  where
    none : (ns : Numbers) → ReadFrom stored_form [] bytes ns → ns ≡ not_grouped
    none (grouped all) from = absurd (omega (arith, ap length from.3, length_most_five stored_form [] from.0))
    none not_grouped from = refl
