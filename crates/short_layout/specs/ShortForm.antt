-- The short stored form of a record: a number for each field of the 44-byte form, in groups of seven bits.
use Rattle.std.specs.Prelude.{ℕ, ◌*◌, ◌-◌, ◌/◌, Bool, true, false, not, cond, List, [], ◌∷◌, ◌++◌, eqb, get_or, drop, replicate, Option, Some, None}
use Rattle.state.specs.declared.Record.{Record}
use Rattle.layout.specs.StoredForm.{Short, as_is, in_words, unless_none, Field, stored_form, values_of}
use Rattle.leb128.specs.Leb128.{leb128, NumberAnswer, number, cut_off, too_many_groups, not_shortest, read_number}

-- ---- values and numbers

-- the number that stands for a value; for SP it is (0x18000 - SP) / 4
abbrev pub number_for : Short → ℕ → ℕ
number_for as_is x = x
number_for in_words x = (0x18000 - x) / 4
number_for unless_none x = x

-- and the value that a number stands for
abbrev pub value_for : Short → ℕ → ℕ
value_for as_is n = n
value_for in_words n = 0x18000 - 4 * n
value_for unless_none n = n

-- one for each field
unfoldable pub each_field : (Short → ℕ → ℕ) → List Field → List ℕ → List ℕ
each_field f [] xs = []
each_field f (g ∷ fields) [] = []
each_field f (g ∷ fields) (x ∷ xs) = f g.short x ∷ each_field f fields xs

unfoldable pub numbers_for : List ℕ → List ℕ
numbers_for values = each_field number_for stored_form values

unfoldable pub values_for : List ℕ → List ℕ
values_for numbers = each_field value_for stored_form numbers

-- ---- which fields are there

-- the offset is left out for base kind 0, and for no other, known or not
abbrev pub is_there : Short → ℕ → Bool
is_there as_is kind = true
is_there in_words kind = true
is_there unless_none kind = not (eqb kind 0)

-- the base kind, which is the tenth number, among those before a field
abbrev pub kind_among : List ℕ → ℕ
kind_among before = get_or before 9 0

-- ---- numbers to bytes

unfoldable pub field_bytes : Short → ℕ → ℕ → List ℕ
field_bytes s kind n = cond (is_there s kind) (leb128 n) []

-- the bytes of some fields' numbers, which stand behind others
unfoldable pub bytes_for : List Field → List ℕ → List ℕ → List ℕ
bytes_for [] before numbers = []
bytes_for (f ∷ fields) before [] = []
bytes_for (f ∷ fields) before (n ∷ numbers) = field_bytes f.short (kind_among before) n ++ bytes_for fields (before ++ (n ∷ [])) numbers

unfoldable pub short_bytes : List ℕ → List ℕ
short_bytes numbers = bytes_for stored_form [] numbers

-- the short form of a record
unfoldable pub short_form : Record → List ℕ
short_form r = short_bytes (numbers_for (values_of r))

-- ---- bytes to numbers

-- the numbers that some bytes hold, all of them there and nothing behind them; or that the bytes aren't such
pub data Numbers : Type 0 where
  grouped : List ℕ → Numbers
  not_grouped : Numbers

-- a field that is left out stands for 0 and takes no bytes
unfoldable pub field_in : Short → ℕ → List ℕ → NumberAnswer
field_in s kind bytes = cond (is_there s kind) (read_number bytes) (number 0 0)

-- what follows a number
abbrev pub when_read : NumberAnswer → (ℕ → ℕ → Numbers) → Numbers
when_read (number x n) next = next x n
when_read cut_off next = not_grouped
when_read too_many_groups next = not_grouped
when_read not_shortest next = not_grouped

-- the numbers of some fields, which stand behind others; nothing may follow the last
unfoldable pub numbers_behind : List Field → List ℕ → List ℕ → Numbers
numbers_behind [] before [] = grouped before
numbers_behind [] before (b ∷ bytes) = not_grouped
numbers_behind (f ∷ fields) before bytes =
    when_read (field_in f.short (kind_among before) bytes) (λ (x n : ℕ). numbers_behind fields (before ++ (x ∷ [])) (drop n bytes))

unfoldable pub numbers_in : List ℕ → Numbers
numbers_in bytes = numbers_behind stored_form [] bytes

-- ---- the code's answer

-- whether bytes are a short form's numbers, and those; all 0 where they aren't
pub record InGroups : Type 0 where
  pub grouped : Bool
  pub numbers : List ℕ

abbrev pub held_by : Numbers → InGroups
held_by (grouped numbers) = record { grouped = true; numbers = numbers }
held_by not_grouped = record { grouped = false; numbers = replicate 13 0 }

abbrev pub seen_held : Option (List ℕ) → InGroups
seen_held (Some numbers) = record { grouped = true; numbers = numbers }
seen_held None = record { grouped = false; numbers = replicate 13 0 }
