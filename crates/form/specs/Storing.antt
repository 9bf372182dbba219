-- Storing a record and reading it back: refusal 6 for the length, then 7 for the range, with the position of the field.
use Rattle.std.specs.Prelude.{ℕ, not, List, [], ◌∷◌, eqb, length, Result}
use Rattle.std.specs.Result.{result_unwrap_or}
use Rattle.refusal.specs.Refusals.{Decision, Rule, rule, decision, when_accepted, decision_of}
use Rattle.refusal.specs.declared.Refusal.{Refusal}
use Rattle.state.specs.Record.{fresh_record}
use Rattle.state.specs.declared.Record.{Record}
use Rattle.layout.specs.StoredForm.{stored_form, form_length, decode, range_rules, values_of, record_bytes, record_in}

-- refusal 6, of so many bytes
abbrev pub length_rule : ℕ → Rule
length_rule n = rule (not (eqb n form_length)) 6 []

-- so many bytes, and the values
abbrev pub form_rules : ℕ → List ℕ → List Rule
form_rules n values = length_rule n ∷ range_rules values

abbrev pub store_rules : Record → ℕ → List Rule
store_rules r room = form_rules room (values_of r)

-- refused, nothing is written
abbrev pub store_decision : Record → List ℕ → Decision
store_decision r room = decision (store_rules r (length room))

abbrev pub room_after : Record → List ℕ → List ℕ
room_after r room = when_accepted (store_decision r room) (record_bytes r) room

abbrev pub load_rules : List ℕ → List Rule
load_rules bytes = form_rules (length bytes) (decode stored_form bytes)

-- what reading back gives
pub record LoadAnswer : Type 0 where
  pub decision : Decision
  pub loaded : Record

-- refused, the fresh record
abbrev pub load_record : List ℕ → LoadAnswer
load_record bytes = record {
  decision = decision (load_rules bytes);
  loaded = when_accepted (decision (load_rules bytes)) (record_in bytes) fresh_record;
}

-- the code's answer, by the papers' numbers and values
abbrev pub seen_read_back : Result Record Refusal → LoadAnswer
seen_read_back a = record { decision = decision_of a; loaded = result_unwrap_or a fresh_record }
