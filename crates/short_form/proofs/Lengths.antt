-- How long a short form is.
use Prim.Native.Nat.{ℕ, zero, suc, ◌+◌, ◌^◌, ◌<◌, ◌≤◌}
use mathlib.Core.Path.{◌≡◌, sym, ap, ◌∙◌}
use mathlib.Core.Bool.{Bool, true, false, not, cond, true≢false}
use mathlib.Core.List.{List, []}
use native.Mathlib.Omega.{arith}
use lib.Dec.{eqb}
use lib.ListN.{length, get_or, length-append}
use borrow.Author.Tests.{eqb-true, leb-true, ltb-true}
use Rattle.layout.specs.StoredForm.{stored_form, width_at, offset_in_range}
use Rattle.layout.proofs.Fields.{whole}
use Rattle.form.proofs.Ranges.{InRange}
use Rattle.leb128.specs.Leb128.{leb128}
use Rattle.leb128.proofs.Theorems.{length_most, length_least, length_below}
use Rattle.short_layout.specs.ShortForm.{field_bytes, bytes_for, short_bytes, numbers_for}
use Rattle.short_form.proofs.Ranges.{in_range, number_at, numbers_length, numbers_accepted, sp_number}

-- ---- one number

at_least_one : (n : ℕ) → 1 ≤ length (leb128 n)
unfolding leb128
at_least_one n = length_least 4 n

at_most : (k n : ℕ) → n < 128 ^ suc k → length (leb128 n) ≤ suc k
unfolding leb128
at_most k n h = length_below 5 k n h

at_most_five : (n : ℕ) → length (leb128 n) ≤ 5
unfolding leb128
at_most_five n = length_most 5 n

-- ---- thirteen numbers

-- the offset's bytes, which may be none
abbrev offset_bytes : ℕ → ℕ → List ℕ
offset_bytes kind n = cond (not (eqb kind 0)) (leb128 n) []

offset_at_most : (t : Bool) (n : ℕ) → n < 2 ^ 24 → length (cond t (leb128 n) []) ≤ 4
offset_at_most true n h = at_most 3 n (omega arith)
offset_at_most false n h = omega arith

module _ (ns : List ℕ) (l : length ns ≡ 13) where
  total : length (short_bytes ns)
      ≡ length (leb128 (get_or ns 0 0)) + length (leb128 (get_or ns 1 0)) + length (leb128 (get_or ns 2 0)) + length (leb128 (get_or ns 3 0))
      + length (leb128 (get_or ns 4 0)) + length (leb128 (get_or ns 5 0)) + length (leb128 (get_or ns 6 0)) + length (leb128 (get_or ns 7 0))
      + length (leb128 (get_or ns 8 0)) + length (leb128 (get_or ns 9 0)) + length (offset_bytes (get_or ns 9 0) (get_or ns 10 0))
      + length (leb128 (get_or ns 11 0)) + length (leb128 (get_or ns 12 0))
  unfolding short_bytes bytes_for field_bytes
  total = ap (λ (xs : List ℕ). length (short_bytes xs)) (sym (whole 13 ns l)) ∙ simp length-append (omega arith)

  pub least : 12 ≤ length (short_bytes ns)
  least = rw total (omega (
    arith,
    at_least_one (get_or ns 0 0),
    at_least_one (get_or ns 1 0),
    at_least_one (get_or ns 2 0),
    at_least_one (get_or ns 3 0),
    at_least_one (get_or ns 4 0),
    at_least_one (get_or ns 5 0),
    at_least_one (get_or ns 6 0),
    at_least_one (get_or ns 7 0),
    at_least_one (get_or ns 8 0),
    at_least_one (get_or ns 9 0),
    at_least_one (get_or ns 11 0),
    at_least_one (get_or ns 12 0),
  ))

  pub most : get_or ns 8 0 ≤ 8192 → get_or ns 9 0 ≤ 2 → get_or ns 10 0 < 2 ^ 24 → get_or ns 11 0 ≤ 127 → get_or ns 12 0 ≤ 15 → length (short_bytes ns) ≤ 49
  most sp kind offset place flags = rw total (omega (
    arith,
    at_most_five (get_or ns 0 0),
    at_most_five (get_or ns 1 0),
    at_most_five (get_or ns 2 0),
    at_most_five (get_or ns 3 0),
    at_most_five (get_or ns 4 0),
    at_most_five (get_or ns 5 0),
    at_most_five (get_or ns 6 0),
    at_most_five (get_or ns 7 0),
    at_most 1 (get_or ns 8 0) (omega arith),
    at_most 0 (get_or ns 9 0) (omega arith),
    offset_at_most (not (eqb (get_or ns 9 0) 0)) (get_or ns 10 0) offset,
    at_most 0 (get_or ns 11 0) (omega arith),
    at_most 0 (get_or ns 12 0) (omega arith),
  ))

-- ---- the numbers of a record in range

offset_below : (kind offset : ℕ) → offset_in_range kind offset ≡ true → offset < 2 ^ 24
offset_below zero offset t = omega (arith, eqb-true offset 0 t)
offset_below (suc zero) offset t = omega (arith, ltb-true offset (2 ^ 20) t)
offset_below (suc (suc zero)) offset t = ltb-true offset (2 ^ 24) t
offset_below (suc (suc (suc kind))) offset t = absurd (true≢false (sym t))

-- 12 to 49 bytes
pub length_between : (values : List ℕ) → length values ≡ 13 → InRange values → ((i : ℕ) → i < 13 → get_or values i 0 < 256 ^ width_at stored_form i)
    → (12 ≤ length (short_bytes (numbers_for values))) × (length (short_bytes (numbers_for values)) ≤ 49)
length_between values l t fit =
    let ns = numbers_for values in
    let m = numbers_length values l t fit in
    let same = number_at values l t fit in
    let tested = in_range values l t in (
      least ns m,
      most ns m (sp_number ns m (numbers_accepted values l t fit))
          (rw (same 9 (omega arith)) (leb-true _ 2 (tested 9 (omega arith))))
          (rw (same 10 (omega arith)) (offset_below (get_or values 9 0) (get_or values 10 0) (tested 10 (omega arith))))
          (rw (same 11 (omega arith)) (leb-true _ 127 (tested 11 (omega arith))))
          (rw (same 12 (omega arith)) (leb-true _ 15 (tested 12 (omega arith)))),
    )
