-- From the 44-byte form to the short one, and back.
use Rattle.std.specs.Prelude.{ℕ, List, [], ◌∷◌, ◌++◌, length}
use Rattle.refusal.specs.Refusals.{Decision, decision, when_accepted}
use Rattle.layout.specs.StoredForm.{record_bytes, record_in}
use Rattle.form.specs.Storing.{length_rule, load_rules}
use Rattle.short_layout.specs.ShortForm.{short_form}
use Rattle.short_form.specs.ShortStoring.{room_rule, PackAnswer, pack_answer, room_packed, read_rules, record_short}

-- 6 and 7 of the 44-byte form, then 10
abbrev pub pack_decision : List ℕ → List ℕ → Decision
pack_decision stored room = decision (load_rules stored ++ (room_rule (short_form (record_in stored)) (length room) ∷ []))

abbrev pub pack : List ℕ → List ℕ → PackAnswer
pack stored room = pack_answer (pack_decision stored room) (short_form (record_in stored))

abbrev pub room_after_pack : List ℕ → List ℕ → List ℕ
room_after_pack stored room = room_packed (pack_decision stored room) (short_form (record_in stored)) room

-- 6 for the room, then 9 and 7 of the short form
abbrev pub unpack_decision : List ℕ → List ℕ → Decision
unpack_decision packed room = decision (length_rule (length room) ∷ read_rules packed)

-- refused, the room stays
abbrev pub room_after_unpack : List ℕ → List ℕ → List ℕ
room_after_unpack packed room = when_accepted (unpack_decision packed room) (record_bytes (record_short packed)) room
