-- A record that is stored is read back, and bytes that are read are stored back.
use Prim.Native.Nat.{ℕ, ◌<◌}
use mathlib.Core.Path.{◌≡◌, refl, sym, ap, ◌∙◌}
use mathlib.Core.List.{List}
use lib.ListN.{length, get_or}
use Rattle.refusal.specs.Refusals.{Decision, accepted, decision, when_accepted}
use Rattle.state.specs.Record.{fresh_record}
use Rattle.state.specs.declared.Record.{Record}
use Rattle.layout.specs.StoredForm.{stored_form, decode, range_rules, values_of, record_bytes, record_in, Held}
use Rattle.layout.proofs.Theorems.{values_kept, record_kept, record_length, same_values, bytes_kept}
use Rattle.form.specs.Storing.{load_rules, store_decision, room_after, load_record}
use Rattle.form.proofs.Ranges.{InRange, ranged}
use Rattle.form.proofs.Decisions.{by_rest, passed, room_by, loaded}

-- what was stored is read back
pub stored_loads : (r : Record) (room : List ℕ) → Held r → store_decision r room ≡ accepted → load_record (room_after r room) ≡ record { decision = accepted; loaded = r }
stored_loads r room h e =
    let bytes = record_bytes r in
    let values = decode stored_form bytes in
    let t : InRange values = ap (λ (vs : List ℕ). decision (range_rules vs)) (values_kept r h) ∙ (passed (length room) (values_of r) e).1 in
    ap load_record (sym (room_by (range_rules (values_of r)) r room accepted (sym e)))
    ∙ sym (loaded bytes accepted r (sym t ∙ by_rest (length bytes) (range_rules values) (record_length r h)) (sym (record_kept r h)))

-- what was read is in range
pub loaded_range : (bytes : List ℕ) → decision (load_rules bytes) ≡ accepted → InRange (values_of (record_in bytes))
loaded_range bytes e =
    let p = passed (length bytes) (decode stored_form bytes) e in
    ap (λ (vs : List ℕ). decision (range_rules vs)) (same_values bytes (ranged (decode stored_form bytes) refl p.1)) ∙ p.1

-- and is stored back, to any room
pub loaded_stores : (bytes room : List ℕ) → ((k : ℕ) → get_or bytes k 0 < 256) → length room ≡ 44 → (load_record bytes).decision ≡ accepted
    → (store_decision (load_record bytes).loaded room ≡ accepted) × (room_after (load_record bytes).loaded room ≡ bytes)
loaded_stores bytes room h l e =
    let values = decode stored_form bytes in
    let p = passed (length bytes) values e in
    let r = (load_record bytes).loaded in
    let same : r ≡ record_in bytes = ap (λ (d : Decision). when_accepted d (record_in bytes) fresh_record) e in
    let t : InRange (values_of r) = ap (λ (s : Record). decision (range_rules (values_of s))) same ∙ loaded_range bytes e in
    let v = sym t ∙ by_rest (length room) (range_rules (values_of r)) l in
    (sym v, sym (room_by (range_rules (values_of r)) r room accepted v) ∙ ap record_bytes same ∙ bytes_kept bytes (ranged values refl p.1) p.0 h)
