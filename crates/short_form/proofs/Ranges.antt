-- What the tests say of thirteen numbers, and of their values.
use Prim.Native.Nat.{ℕ, ◌-◌, ◌*◌, ◌/◌, ◌%◌, ◌^◌, ◌<◌, ◌≤◌}
use mathlib.Core.Path.{◌≡◌, refl, sym, ap, ◌∙◌}
use mathlib.Core.Bool.{true}
use mathlib.Core.List.{List}
use native.Mathlib.Decide.{ℕ_discrete, dec_lt}
use native.Mathlib.Nat.{pow-le-pow_right}
use native.Mathlib.Omega.{arith}
use lib.Dec.{leb}
use lib.ListN.{length, get_or, get_or-eq_default}
use borrow.Author.Tests.{eqb-true, eq-eqb, leb-true, le-leb, ltb-true, lt-ltb}
use Rattle.laws.proofs.Runs.{run_lem}
use Rattle.laws.proofs.Tests.{both}
use Rattle.refusal.specs.Refusals.{accepted, decision}
use Rattle.state.specs.FitRecord.{sp_in_bounds, sp_aligned, sp_fits}
use Rattle.layout.specs.StoredForm.{Field, stored_form, field_at, width_at, encode, record_of, record_in}
use Rattle.layout.proofs.Fields.{ValuesFit, values_fit, decode_encode}
use Rattle.layout.proofs.Positions.{each_passes, none_fails}
use Rattle.form.proofs.Ranges.{InRange}
use Rattle.short_layout.specs.ShortForm.{number_for, value_for, numbers_for, values_for}
use Rattle.short_form.specs.ShortStoring.{within_field, number_fits, number_rules}
use Rattle.short_form.proofs.Numbers.{length_each, at_field, as_they_are}

width_most : (i : ℕ) → i < 13 → width_at stored_form i ≤ 4
width_most i l = leb-true _ 4 (run_lem (λ k. leb (width_at stored_form k) 4) 0 13 refl i (omega arith) (omega arith))

-- a value of its width has at most 32 bits
in_32_bits : (i x : ℕ) → i < 13 → x < 256 ^ width_at stored_form i → x < 2 ^ 32
in_32_bits i x l h = omega (arith, h, pow-le-pow_right {n = 256} (omega arith) {i = width_at stored_form i} {j = 4} (width_most i l))

-- ---- SP

pub sp_parts : (sp : ℕ) → sp_fits sp ≡ true → (0x10000 ≤ sp) × (sp ≤ 0x18000) × (sp % 4 ≡ 0)
sp_parts sp t =
    let p = both (sp_in_bounds sp) (sp_aligned sp) t in
    let q = both (leb 0x10000 sp) (leb sp 0x18000) p.0 in
    (leb-true 0x10000 sp q.0, leb-true sp 0x18000 q.1, eqb-true (sp % 4) 0 p.1)

-- every number of at most 8,192 stands for an SP in range
pub sp_in_range_lem : (n : ℕ) → n ≤ 8192 → sp_fits (0x18000 - 4 * n) ≡ true
sp_in_range_lem n h = rw (le-leb 0x10000 (0x18000 - 4 * n) (omega arith), le-leb (0x18000 - 4 * n) 0x18000 (omega arith), eq-eqb ((0x18000 - 4 * n) % 4) 0 (omega arith))

-- ---- numbers that are accepted

module _ (numbers : List ℕ) (l : length numbers ≡ 13) (t : decision (number_rules numbers) ≡ accepted) where
  passed : (i : ℕ) → i < 13
      → (within_field (field_at stored_form i).short (width_at stored_form i) (get_or numbers i 0) ≡ true)
      × ((field_at stored_form i).range (get_or numbers 9 0) (value_for (field_at stored_form i).short (get_or numbers i 0)) ≡ true)
  passed i m = both _ _ (each_passes number_fits 7 (get_or numbers 9 0) stored_form numbers 0 i t m (omega arith))

  pub sp_number : get_or numbers 8 0 ≤ 8192
  sp_number = leb-true _ 8192 (passed 8 (omega arith)).0

  within_width : (i : ℕ) → i < 13 → (i ≡ 8 → ⊥) → get_or numbers i 0 < 256 ^ width_at stored_form i
  within_width i m n =
      ltb-true _ _ (sym (as_they_are i m n (width_at stored_form i) (get_or numbers i 0)).2 ∙ (passed i m).0)

  pub of_32_bits : (k : ℕ) → get_or numbers k 0 < 2 ^ 32
  of_32_bits k = elim (dec_lt k 13) [
    | yes m ↦ elim (ℕ_discrete k 8) [
      | yes e ↦ rw e (omega (arith, sp_number))
      | no n ↦ in_32_bits k (get_or numbers k 0) m (within_width k m n)
    ]
    | no m ↦ let past : length numbers ≤ k = omega arith in
        rw (get_or-eq_default numbers 0 past) (omega arith)
  ]

  -- their values are those of a record in range
  value_at : (i : ℕ) → i < 13 → get_or (values_for numbers) i 0 ≡ value_for (field_at stored_form i).short (get_or numbers i 0)
  unfolding values_for
  value_at i m = at_field value_for stored_form numbers i m (omega arith)

  pub values_in_range : InRange (values_for numbers)
  values_in_range = none_fails (λ (f : Field). f.range) 7 (get_or (values_for numbers) 9 0) stored_form (values_for numbers) 0 (λ i m. rw (value_at 9 (omega arith), value_at i m) (passed i m).1)

  pub values_length : length (values_for numbers) ≡ 13
  unfolding values_for
  values_length = length_each value_for stored_form numbers l

  pub values_of_width : ValuesFit stored_form (values_for numbers)
  values_of_width = values_fit stored_form (values_for numbers) values_length λ i m. rw (value_at i m) (elim (ℕ_discrete i 8) [
    | yes e ↦ rw e (omega arith)
    | no n ↦ rw (as_they_are i m n 0 (get_or numbers i 0)).1 (within_width i m n)
  ])

  -- and go through their bytes
  pub through_bytes : record_in (encode stored_form (values_for numbers)) ≡ record_of (values_for numbers)
  through_bytes = ap record_of (decode_encode stored_form (values_for numbers) values_of_width)

-- ---- values of a record in range

module _ (values : List ℕ) (l : length values ≡ 13) (t : InRange values) where
  pub in_range : (i : ℕ) → i < 13 → (field_at stored_form i).range (get_or values 9 0) (get_or values i 0) ≡ true
  in_range i m = each_passes (λ (f : Field). f.range) 7 (get_or values 9 0) stored_form values 0 i t m (omega arith)

  pub sp_value : (0x10000 ≤ get_or values 8 0) × (get_or values 8 0 ≤ 0x18000) × (get_or values 8 0 % 4 ≡ 0)
  sp_value = sp_parts (get_or values 8 0) (in_range 8 (omega arith))

  -- the offset of none is 0
  pub none_at_0 : get_or values 9 0 ≡ 0 → get_or values 10 0 ≡ 0
  none_at_0 kind = eqb-true (get_or values 10 0) 0 (rw kind at (in_range 10 (omega arith)))

module _ (values : List ℕ) (l : length values ≡ 13) (t : InRange values) (fit : (i : ℕ) → i < 13 → get_or values i 0 < 256 ^ width_at stored_form i) where
  pub number_at : (i : ℕ) → i < 13 → get_or (numbers_for values) i 0 ≡ number_for (field_at stored_form i).short (get_or values i 0)
  unfolding numbers_for
  number_at i m = at_field number_for stored_form values i m (omega arith)

  pub numbers_length : length (numbers_for values) ≡ 13
  unfolding numbers_for
  numbers_length = length_each number_for stored_form values l

  number_fits_lem : (i : ℕ) → i < 13 → number_fits (field_at stored_form i) (get_or values 9 0) (number_for (field_at stored_form i).short (get_or values i 0)) ≡ true
  number_fits_lem i m = elim (ℕ_discrete i 8) [
    | yes e ↦ let n = (0x18000 - get_or values 8 0) / 4 in
        rw (e, le-leb n 8192 (omega (arith, (sp_value values l t).0)), sp_in_range_lem n (omega (arith, (sp_value values l t).0)))
    | no n ↦ let same = as_they_are i m n (width_at stored_form i) (get_or values i 0) in
        rw (same.0, same.1, same.2, lt-ltb _ _ (fit i m), in_range values l t i m)
  ]

  pub numbers_accepted : decision (number_rules (numbers_for values)) ≡ accepted
  numbers_accepted = none_fails number_fits 7 (get_or (numbers_for values) 9 0) stored_form (numbers_for values) 0 (λ i m. rw (number_at 9 (omega arith), number_at i m) (number_fits_lem i m))

  pub no_number_for_none : get_or (numbers_for values) 9 0 ≡ 0 → get_or (numbers_for values) 10 0 ≡ 0
  no_number_for_none e = number_at 10 (omega arith) ∙ none_at_0 values l t (sym (number_at 9 (omega arith)) ∙ e)

  pub numbers_of_32_bits : (i : ℕ) → i < 13 → get_or (numbers_for values) i 0 < 2 ^ 32
  numbers_of_32_bits i m = of_32_bits (numbers_for values) numbers_length numbers_accepted i
