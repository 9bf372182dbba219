-- Writing a record in the short form, and reading one: which calls are refused, and what the others give.
use Rattle.std.specs.Prelude.{ℕ, ◌^◌, Bool, true, false, not, ◌&&◌, List, [], ◌∷◌, ◌++◌, ltb, leb, length, drop, Result}
use Rattle.std.specs.Result.{result_unwrap_or}
use Rattle.refusal.specs.Refusals.{Decision, Rule, rule, decision, when_accepted, decision_of}
use Rattle.refusal.specs.declared.Refusal.{Refusal}
use Rattle.state.specs.Record.{fresh_record}
use Rattle.state.specs.declared.Record.{Record}
use Rattle.layout.specs.StoredForm.{Test, Short, as_is, in_words, unless_none, Field, range_rules, value_rules, values_of, record_of}
use Rattle.form.specs.Storing.{LoadAnswer}
use Rattle.short_layout.specs.ShortForm.{short_form, Numbers, grouped, not_grouped, numbers_in, value_for, values_for}

-- ---- writing

-- refusal 10: so many bytes of room are too few for this form
abbrev pub room_rule : List ℕ → ℕ → Rule
room_rule form room = rule (ltb room (length form)) 10 []

-- 7, then 10
abbrev pub write_rules : Record → ℕ → List Rule
write_rules r room = range_rules (values_of r) ++ (room_rule (short_form r) room ∷ [])

abbrev pub write_decision : Record → List ℕ → Decision
write_decision r room = decision (write_rules r (length room))

-- what writing answers
pub record PackAnswer : Type 0 where
  pub decision : Decision
  pub length : ℕ

-- the length of the form, 0 where the call is refused
abbrev pub pack_answer : Decision → List ℕ → PackAnswer
pack_answer d form = record { decision = d; length = when_accepted d (length form) 0 }

-- the form at the start of the room, whose other bytes stay; refused, all stay
abbrev pub room_packed : Decision → List ℕ → List ℕ → List ℕ
room_packed d form room = when_accepted d (form ++ drop (length form) room) room

-- ---- reading

-- a number that isn't past its field: an SP number of at most 8,192, any other of the field's width
abbrev pub within_field : Short → ℕ → ℕ → Bool
within_field as_is width n = ltb n (256 ^ width)
within_field in_words width n = leb n 8192
within_field unless_none width n = ltb n (256 ^ width)

-- that, and the range test of its value
abbrev pub number_fits : Field → Test
number_fits f kind n = within_field f.short f.width n && f.range kind (value_for f.short n)

abbrev pub is_grouped : Numbers → Bool
is_grouped (grouped numbers) = true
is_grouped not_grouped = false

abbrev pub numbers_of : Numbers → List ℕ
numbers_of (grouped numbers) = numbers
numbers_of not_grouped = []

-- refusal 7, with the position in the 44-byte form
abbrev pub number_rules : List ℕ → List Rule
number_rules numbers = value_rules number_fits 7 numbers

-- refusal 9, for the whole of the form
abbrev pub groups_rule : Bool → Rule
groups_rule in_groups = rule (not in_groups) 9 []

-- 9, then 7
abbrev pub read_rules : List ℕ → List Rule
read_rules bytes = groups_rule (is_grouped (numbers_in bytes)) ∷ number_rules (numbers_of (numbers_in bytes))

-- the record of the numbers; refused, the fresh record
abbrev pub record_read : Decision → List ℕ → LoadAnswer
record_read d numbers = record { decision = d; loaded = when_accepted d (record_of (values_for numbers)) fresh_record }

abbrev pub read_record : List ℕ → LoadAnswer
read_record bytes = record_read (decision (read_rules bytes)) (numbers_of (numbers_in bytes))

-- the record that the bytes hold, where they are accepted
abbrev pub record_short : List ℕ → Record
record_short bytes = record_of (values_for (numbers_of (numbers_in bytes)))

-- ---- the code's answer, by the papers' numbers and values

abbrev pub seen_packed : Result ℕ Refusal → PackAnswer
seen_packed a = record { decision = decision_of a; length = result_unwrap_or a 0 }
