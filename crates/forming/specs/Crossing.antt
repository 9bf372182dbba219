-- Records as the host's calls take and give them: in room of 44 bytes.
use Rattle.std.specs.Prelude.{ℕ, List, [], ◌∷◌, length}
use Rattle.refusal.specs.Refusals.{Decision, decision, when_accepted}
use Rattle.layout.specs.StoredForm.{record_bytes, record_in}
use Rattle.form.specs.Storing.{length_rule, load_rules}

-- refusal 6
abbrev pub fresh_decision : List ℕ → Decision
fresh_decision room = decision (length_rule (length room) ∷ [])

-- storing a record that is given as its bytes, and reading a stored one back: any area that isn't 44 bytes is 6; bytes that are no
-- record, or one out of range, are 7, with the position
abbrev pub form_decision : List ℕ → List ℕ → Decision
form_decision bytes room = decision (length_rule (length room) ∷ load_rules bytes)

-- refused, the room stays as it was
abbrev pub form_room : List ℕ → List ℕ → List ℕ
form_room bytes room = when_accepted (form_decision bytes room) (record_bytes (record_in bytes)) room
