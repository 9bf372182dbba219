-- From one form to the other and back: the same bytes.
use Prim.Native.Nat.{ℕ, ◌<◌, ◌≤◌}
use mathlib.Core.Path.{◌≡◌, refl, sym, ap, ◌∙◌}
use mathlib.Core.List.{List, [], ◌∷◌}
use native.Mathlib.Omega.{arith}
use lib.Dec.{eqb}
use lib.ListN.{length, get_or, take}
use borrow.Author.Tests.{le-ltb}
use Rattle.refusal.specs.Refusals.{Decision, accepted, refused, decision}
use Rattle.refusal.proofs.Theorems.{passes_lem, all_accepted}
use Rattle.layout.specs.StoredForm.{stored_form, encode, decode, record_of, record_bytes, record_in, range_rules}
use Rattle.layout.proofs.Fields as Fields
use Rattle.layout.proofs.Theorems as Layout
use Rattle.form.specs.Storing.{load_rules}
use Rattle.form.proofs.Ranges.{InRange, ranged}
use Rattle.form.proofs.Decisions.{by_rest, passed}
use Rattle.short_layout.specs.ShortForm.{short_form, short_bytes, numbers_for, values_for, numbers_in}
use Rattle.short_form.specs.ShortStoring.{room_rule, numbers_of, read_rules, record_short}
use Rattle.short_form.proofs.Decisions.{then_room, form_is}
use Rattle.short_form.proofs.Theorems as Short
use Rattle.packing.specs.Packing.{pack_decision, pack, room_after_pack, unpack_decision, room_after_unpack}

-- ---- a stored form that is accepted

module _ (stored : List ℕ) (h : (k : ℕ) → get_or stored k 0 < 256) (t : decision (load_rules stored) ≡ accepted) where
  abbrev values : List ℕ
  values = decode stored_form stored

  in_range : InRange values
  in_range = (passed (length stored) values t).1

  fits : Fields.ValuesFit stored_form values
  fits = Fields.values_fit stored_form values refl (λ i m. Fields.decode_below stored_form i stored m h)

  short_is : short_form (record_in stored) ≡ short_bytes (numbers_for values)
  unfolding short_form
  short_is = ap (λ (vs : List ℕ). short_bytes (numbers_for vs)) (Layout.same_values stored (ranged values refl in_range))

  -- its short form is accepted, and holds the same record
  pub short_reads : (decision (read_rules (short_form (record_in stored))) ≡ accepted) × (record_short (short_form (record_in stored)) ≡ record_in stored)
  short_reads =
      let kept = Short.values_kept values fits in_range in
      (ap (λ (form : List ℕ). decision (read_rules form)) short_is ∙ kept.0, ap (λ (form : List ℕ). record_short form) short_is ∙ kept.1)

  pub short_length : (12 ≤ length (short_form (record_in stored))) × (length (short_form (record_in stored)) ≤ 49)
  short_length = rw short_is (Short.lengths values fits in_range)

  pub stored_back : record_bytes (record_in stored) ≡ stored
  stored_back = Layout.bytes_kept stored (ranged values refl in_range) (passed (length stored) values t).0 h

-- ---- a short form that is accepted

module _ (packed : List ℕ) (h : (k : ℕ) → get_or packed k 0 < 256) (t : decision (read_rules packed) ≡ accepted) where
  abbrev short_values : List ℕ
  short_values = values_for (numbers_of (numbers_in packed))

  abbrev stored_form_of : List ℕ
  stored_form_of = record_bytes (record_short packed)

  values_written : decode stored_form stored_form_of ≡ short_values
  values_written =
      ap (λ (vs : List ℕ). decode stored_form (encode stored_form vs)) (Short.same_values packed h t)
      ∙ Fields.decode_encode stored_form short_values (Short.bytes_kept packed h t).0

  length_written : length stored_form_of ≡ 44
  length_written =
      ap (λ (vs : List ℕ). length (encode stored_form vs)) (Short.same_values packed h t)
      ∙ Fields.length_encode stored_form short_values (Short.bytes_kept packed h t).0

  -- its stored form is accepted, and holds the same record
  pub stored_reads : (decision (load_rules stored_form_of) ≡ accepted) × (record_in stored_form_of ≡ record_short packed)
  stored_reads =
      let tested : InRange (decode stored_form stored_form_of) = ap (λ (vs : List ℕ). decision (range_rules vs)) values_written ∙ (Short.bytes_kept packed h t).1 in
      (sym (by_rest (length stored_form_of) (range_rules (decode stored_form stored_form_of)) length_written) ∙ tested, ap record_of values_written)

  pub packed_length : (12 ≤ length packed) × (length packed ≤ 49)
  packed_length =
      let k = Short.bytes_kept packed h t in
      rw k.2 at (Short.lengths short_values k.0 k.1)

-- ---- calls

-- what is accepted has its form at the start of the room
module _ (stored room : List ℕ) (t : pack_decision stored room ≡ accepted) where
  pub loads : decision (load_rules stored) ≡ accepted
  loads = (all_accepted (load_rules stored) (room_rule (short_form (record_in stored)) (length room) ∷ []) t).0

  pub form_packed : take (pack stored room).length (room_after_pack stored room) ≡ short_form (record_in stored)
  form_packed = form_is (short_form (record_in stored)) room (room_after_pack stored room) (pack_decision stored room) (pack stored room) refl refl t

-- and is accepted where there is room for it
pub with_room : (stored room : List ℕ) → decision (load_rules stored) ≡ accepted → length (short_form (record_in stored)) ≤ length room → pack_decision stored room ≡ accepted
with_room stored room t l = then_room (load_rules stored) (short_form (record_in stored)) room accepted (sym t) ∙ rw (le-ltb (length room) (length (short_form (record_in stored))) l)

-- in 49 bytes there always is
pub room_of_49 : (stored room : List ℕ) → ((k : ℕ) → get_or stored k 0 < 256) → 49 ≤ length room → pack_decision stored room ≡ decision (load_rules stored)
room_of_49 stored room h l = by-decision (decision (load_rules stored)) refl
  where
    by-decision : (d : Decision) → decision (load_rules stored) ≡ d → pack_decision stored room ≡ decision (load_rules stored)
    by-decision accepted e = with_room stored room e (omega (arith, (short_length stored h e).1)) ∙ sym e
    by-decision (refused n values) e = then_room (load_rules stored) (short_form (record_in stored)) room (refused n values) (sym e) ∙ sym e

module _ (packed room : List ℕ) (t : unpack_decision packed room ≡ accepted) where
  pub reads : decision (read_rules packed) ≡ accepted
  reads = (passes_lem (eqb (length room) 44) 6 [] _ t).1

  pub bytes_unpacked : room_after_unpack packed room ≡ record_bytes (record_short packed)
  bytes_unpacked = rw t

-- 44 bytes to the short form and back, to any room of 44 bytes
pub out_and_back : (stored room back : List ℕ) → ((k : ℕ) → get_or stored k 0 < 256) → pack_decision stored room ≡ accepted → length back ≡ 44
    → (unpack_decision (short_form (record_in stored)) back ≡ accepted) × (room_after_unpack (short_form (record_in stored)) back ≡ stored)
out_and_back stored room back h t l =
    let loaded = loads stored room t in
    let r = short_reads stored h loaded in
    let form = short_form (record_in stored) in
    let e : unpack_decision form back ≡ accepted = sym (by_rest (length back) (read_rules form) l) ∙ r.0 in
    (e, bytes_unpacked form back e ∙ ap record_bytes r.1 ∙ stored_back stored h loaded)

-- the short form to 44 bytes and back, to any room that is long enough
pub in_and_out : (packed room back : List ℕ) → ((k : ℕ) → get_or packed k 0 < 256) → unpack_decision packed room ≡ accepted → length packed ≤ length back
    → (pack_decision (room_after_unpack packed room) back ≡ accepted) × (short_form (record_in (room_after_unpack packed room)) ≡ packed)
in_and_out packed room back h t l =
    let e = reads packed room t in
    let r = stored_reads packed h e in
    let same : short_form (record_in (record_bytes (record_short packed))) ≡ packed = ap short_form r.1 ∙ Short.same_form packed h e in
    rw (bytes_unpacked packed room t) (with_room (record_bytes (record_short packed)) back r.0 (rw same l), same)
