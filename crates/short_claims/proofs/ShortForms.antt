-- The claims of the short form are met, by every call that meets its contract as the checker reads it.
use Prim.Native.Nat.{ℕ, ◌≤◌}
use mathlib.Core.Path.{◌≡◌, refl, sym, ap, ◌∙◌}
use mathlib.Core.Bool.{Bool, true, false, cond, true≢false}
use mathlib.Core.List.{List, [], ◌∷◌, ◌++◌}
use lib.Dec.{ltb}
use lib.ListN.{length, drop}
use borrow.Author.Tests.{le-ltb, ltb-false}
use Rattle.refusal.specs.Refusals.{Decision, accepted, refused, decision, is_accepted, when_accepted, decision_of}
use Rattle.refusal.proofs.Theorems.{all_accepted}
use Rattle.state.specs.Record.{fresh_record}
use Rattle.layout.specs.StoredForm.{record_in, range_rules, values_of}
use Rattle.state.specs.declared.Record.{Record}
use Rattle.form.specs.Storing.{LoadAnswer, load_rules}
use Rattle.form.proofs.Ranges.{InRange}
use Rattle.short_layout.specs.ShortForm.{short_form}
use Rattle.short_form.specs.ShortStoring.{room_rule, write_decision, PackAnswer, pack_answer, room_packed, seen_packed, read_rules, read_record, record_short}
use Rattle.short_form.proofs.Decisions.{by_room, then_room, accepts, left_is, form_is}
use Rattle.short_form.proofs.Theorems as Short
use Rattle.packing.specs.Packing.{pack_decision, pack, room_after_pack, unpack_decision, room_after_unpack}
use Rattle.packing.proofs.Theorems as Packing
use Rattle.conversion.proofs.Theorems.{packed_back, unpacked_back}
use Rattle.short_claims.specs.ShortForms.{PackCall, UnpackCall, WriteCall, ReadCall, stored, pack_room, pack_left, packed_by, pack_accepts, short, unpack_room, unpack_left, unpack_accepts, written, write_room, write_left, written_by, write_accepts, read_from, read_answer, WrittenTo, ShortForms}

-- ---- a form in its room

leaves : (form room left packed : List ℕ) → left ≡ form ++ drop (length form) room → packed ≡ form → 12 ≤ length form → length form ≤ 49 → length form ≤ length room
    → WrittenTo packed room left
leaves form room left packed e f low high fits = rw f (record { at_least = low; at_most = high; inside = fits; whole = e })

-- the room that is tested last is long enough
room_fits : (form room : List ℕ) → by_room form room ≡ accepted → length form ≤ length room
room_fits form room t = ltb-false (length room) (length form) (passed (ltb (length room) (length form)) t)
  where
    passed : (b : Bool) → cond b (refused 10 []) accepted ≡ accepted → b ≡ false
    passed true e = absurd (true≢false (sym (ap is_accepted e)))
    passed false e = refl

-- ---- the contracts

packs : (p : PackCall) → (seen_packed p.answer ≡ pack (stored p) (pack_room p)) × (pack_left p ≡ room_after_pack (stored p) (pack_room p))
packs p = p.contract

unpacks : (u : UnpackCall) → (decision_of u.answer ≡ unpack_decision (short u) (unpack_room u)) × (unpack_left u ≡ room_after_unpack (short u) (unpack_room u))
unpacks u = u.contract

writes : (w : WriteCall) → (seen_packed w.answer ≡ pack_answer (write_decision (written w) (write_room w)) (short_form (written w)))
    × (write_left w ≡ room_packed (write_decision (written w) (write_room w)) (short_form (written w)) (write_room w))
writes w = w.contract

reads : (r : ReadCall) → read_answer r ≡ read_record (read_from r)
reads r = r.contract

-- ---- pack and unpack

module _ (p : PackCall) (t : pack_accepts p) where
  abbrev form : List ℕ
  form = short_form (record_in (stored p))

  pack_accepted : pack_decision (stored p) (pack_room p) ≡ accepted
  pack_accepted = accepts form (pack_room p) (pack_left p) _ _ (packs p).0 (packs p).1 t

  packed_form : packed_by p ≡ form
  packed_form = form_is form (pack_room p) (pack_left p) _ _ (packs p).0 (packs p).1 t

  pack_leaves : WrittenTo (packed_by p) (pack_room p) (pack_left p)
  pack_leaves =
      let loads = Packing.loads (stored p) (pack_room p) pack_accepted in
      let n = Packing.short_length (stored p) p.bytes loads in
      let rules = all_accepted (load_rules (stored p)) (room_rule form (length (pack_room p)) ∷ []) pack_accepted in
      leaves form (pack_room p) (pack_left p) (packed_by p) (left_is form (pack_room p) (pack_left p) _ _ (packs p).0 (packs p).1 t) packed_form n.0 n.1 (room_fits form (pack_room p) rules.1)

out_and_back : (p : PackCall) (u : UnpackCall) → pack_accepts p → short u ≡ packed_by p → length (unpack_room u) ≡ 44 → unpack_accepts u × (unpack_left u ≡ stored p)
out_and_back p u t e l =
    let back = Packing.out_and_back (stored p) (pack_room p) (unpack_room u) p.bytes (pack_accepted p t) l in
    let same = e ∙ packed_form p t in (
      (unpacks u).0 ∙ ap (λ (bytes : List ℕ). unpack_decision bytes (unpack_room u)) same ∙ back.0,
      (unpacks u).1 ∙ ap (λ (bytes : List ℕ). room_after_unpack bytes (unpack_room u)) same ∙ back.1,
    )

in_and_out : (u : UnpackCall) (p : PackCall) → unpack_accepts u → stored p ≡ unpack_left u → length (short u) ≤ length (pack_room p) → pack_accepts p × (packed_by p ≡ short u)
in_and_out u p t e l =
    let d = sym (unpacks u).0 ∙ t in
    let same = e ∙ (unpacks u).1 in
    let back = Packing.in_and_out (short u) (unpack_room u) (pack_room p) u.bytes d l in
    let accepts : pack_accepts p = ap (λ (a : PackAnswer). a.decision) (packs p).0 ∙ ap (λ (bytes : List ℕ). pack_decision bytes (pack_room p)) same ∙ back.0 in
    (accepts, packed_form p accepts ∙ ap (λ (bytes : List ℕ). short_form (record_in bytes)) same ∙ back.1)

-- ---- write and read

module _ (w : WriteCall) (t : write_accepts w) where
  write_accepted : write_decision (written w) (write_room w) ≡ accepted
  write_accepted = accepts (short_form (written w)) (write_room w) (write_left w) _ _ (writes w).0 (writes w).1 t

  written_form : written_by w ≡ short_form (written w)
  written_form = form_is (short_form (written w)) (write_room w) (write_left w) _ _ (writes w).0 (writes w).1 t

  tables : InRange (values_of (written w)) × (by_room (short_form (written w)) (write_room w) ≡ accepted)
  tables = all_accepted (range_rules (values_of (written w))) (room_rule (short_form (written w)) (length (write_room w)) ∷ []) write_accepted

  write_leaves : WrittenTo (written_by w) (write_room w) (write_left w)
  write_leaves =
      let n = Short.form_length_lem (written w) w.held tables.0 in
      leaves (short_form (written w)) (write_room w) (write_left w) (written_by w) (left_is (short_form (written w)) (write_room w) (write_left w) _ _ (writes w).0 (writes w).1 t) written_form n.0 n.1 (room_fits (short_form (written w)) (write_room w) tables.1)

written_reads : (w : WriteCall) (r : ReadCall) → write_accepts w → read_from r ≡ written_by w → read_answer r ≡ record { decision = accepted; loaded = written w }
written_reads w r t e =
    reads r ∙ ap read_record (e ∙ written_form w t) ∙ Short.written_reads (written w) w.held (tables w t).0

read_writes : (r : ReadCall) (w : WriteCall) → (read_answer r).decision ≡ accepted → written w ≡ (read_answer r).loaded → length (read_from r) ≤ length (write_room w)
    → write_accepts w × (written_by w ≡ read_from r)
read_writes r w t e l =
    let d : decision (read_rules (read_from r)) ≡ accepted = sym (ap (λ (a : LoadAnswer). a.decision) (reads r)) ∙ t in
    let loaded : (read_answer r).loaded ≡ record_short (read_from r) =
    ap (λ (a : LoadAnswer). a.loaded) (reads r) ∙ ap (λ (x : Decision). when_accepted x (record_short (read_from r)) fresh_record) d in
    let same = e ∙ loaded in
    let form : short_form (written w) ≡ read_from r = ap short_form same ∙ Short.same_form (read_from r) r.bytes d in
    let range : InRange (values_of (written w)) =
    ap (λ (s : Record). decision (range_rules (values_of s))) same ∙ Short.range_kept (read_from r) r.bytes d in
    let accepted-too : write_decision (written w) (write_room w) ≡ accepted =
    then_room (range_rules (values_of (written w))) (short_form (written w)) (write_room w) accepted (sym range) ∙ rw (form, le-ltb (length (write_room w)) (length (read_from r)) l) in
    let accepts : write_accepts w = ap (λ (a : PackAnswer). a.decision) (writes w).0 ∙ accepted-too in
    (accepts, written_form w accepts ∙ form)

-- ---- all of them

unpack_length : (u : UnpackCall) → unpack_accepts u → (12 ≤ length (short u)) × (length (short u) ≤ 49)
unpack_length u t = Packing.packed_length (short u) u.bytes (Packing.reads (short u) (unpack_room u) (sym (unpacks u).0 ∙ t))

read_length : (r : ReadCall) → (read_answer r).decision ≡ accepted → (12 ≤ length (read_from r)) × (length (read_from r) ≤ 49)
read_length r t = Packing.packed_length (read_from r) r.bytes (sym (ap (λ (a : LoadAnswer). a.decision) (reads r)) ∙ t)

pub short_forms : ShortForms
short_forms = record {
  out_and_back = out_and_back;
  in_and_out = in_and_out;
  programs_out = packed_back;
  programs_in = unpacked_back;
  written_reads = written_reads;
  read_writes = read_writes;
  pack_leaves = pack_leaves;
  write_leaves = write_leaves;
  unpack_length = unpack_length;
  read_length = read_length;
}
