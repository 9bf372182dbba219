-- The stored form of a record: 44 bytes, a list of fields from which the positions follow. The short form is of the same list.
use Rattle.std.specs.Prelude.{ℕ, ◌+◌, ◌*◌, ◌^◌, ◌<◌, Bool, true, false, not, cond, List, [], ◌∷◌, ◌++◌, eqb, ltb, leb, length, get_or, take, drop, ◌≡◌}
use Rattle.bits.specs.Fields.{bit}
use Rattle.arm.specs.declared.Flags.{Flags}
use Rattle.endian.specs.LittleEndian.{load_le, bytes_of}
use Rattle.refusal.specs.Refusals.{Rule, rule, decision, is_accepted}
use Rattle.state.specs.FitRecord.{sp_fits}
use Rattle.state.specs.Record.{kind_of, offset_of}
use Rattle.state.specs.declared.Base.{Base}
use Rattle.state.specs.declared.Base.TheVariants.{Nothing, Ram, External}
use Rattle.state.specs.declared.Record.{Record}

-- a test of a field's value, which is also given the base kind
abbrev pub Test : Type 0
Test = ℕ → ℕ → Bool

-- what the short form has for a field: its value; the number of words from there to 0x18000; or its value, unless the base is none
pub data Short : Type 0 where
  as_is : Short
  in_words : Short
  unless_none : Short

-- a field: its width in bytes, the build paper's range test, a test of the host's, whether the value is some record's, fit or not,
-- and what the short form has for it
pub record Field : Type 0 where
  pub width : ℕ
  pub range : Test
  pub stands : Test
  pub short : Short

abbrev pub field : ℕ → Test → Test → Short → Field
field width range stands short = record { width = width; range = range; stands = stands; short = short }

abbrev pub any_value : Test
any_value kind x = true

-- as for a fit record
abbrev pub sp_in_range : Test
sp_in_range kind x = sp_fits x

-- 0 none, 1 RAM, 2 external
abbrev pub kind_in_range : Test
kind_in_range kind x = leb x 2

-- by the kind: zero for none; below 2 ^ 20 in RAM; below 2 ^ 24 in external data
abbrev pub offset_in_range : Test
offset_in_range kind x = get_or (eqb x 0 ∷ ltb x (2 ^ 20) ∷ ltb x (2 ^ 24) ∷ []) kind false

-- zero for none
abbrev pub offset_stands : Test
offset_stands kind x = get_or (eqb x 0 ∷ []) kind true

abbrev pub place_in_range : Test
place_in_range kind x = leb x 127

abbrev pub flags_in_range : Test
flags_in_range kind x = leb x 15

-- the build paper's stored form: r0 to r7, SP, base kind, offset, place, flags
abbrev pub stored_form : List Field
stored_form =
    field 4 any_value any_value as_is
    ∷ field 4 any_value any_value as_is
    ∷ field 4 any_value any_value as_is
    ∷ field 4 any_value any_value as_is
    ∷ field 4 any_value any_value as_is
    ∷ field 4 any_value any_value as_is
    ∷ field 4 any_value any_value as_is
    ∷ field 4 any_value any_value as_is
    ∷ field 4 sp_in_range any_value in_words
    ∷ field 1 kind_in_range kind_in_range as_is
    ∷ field 4 offset_in_range offset_stands unless_none
    ∷ field 2 place_in_range any_value as_is
    ∷ field 1 flags_in_range flags_in_range as_is
    ∷ []

-- in bytes
abbrev pub form_length : ℕ
form_length = 44

-- ---- values to bytes and back, lowest byte first

abbrev pub length_of : List Field → ℕ
length_of [] = 0
length_of (f ∷ fields) = f.width + length_of fields

-- field i; past the last an empty one
abbrev pub field_at : List Field → ℕ → Field
field_at fields i = get_or fields i (field 0 any_value any_value as_is)

abbrev pub width_at : List Field → ℕ → ℕ
width_at fields i = (field_at fields i).width

abbrev pub encode : List Field → List ℕ → List ℕ
encode [] values = []
encode (f ∷ fields) [] = []
encode (f ∷ fields) (x ∷ values) = bytes_of f.width x ++ encode fields values

abbrev pub decode : List Field → List ℕ → List ℕ
decode [] bytes = []
decode (f ∷ fields) bytes = load_le f.width bytes 0 ∷ decode fields (drop f.width bytes)

-- ---- the first field that fails a test

-- a line for each field, which is refused with this number and the position of the field's first byte
abbrev pub field_rules : (Field → Test) → ℕ → ℕ → ℕ → List Field → List ℕ → List Rule
field_rules test n kind at [] values = []
field_rules test n kind at (f ∷ fields) [] = []
field_rules test n kind at (f ∷ fields) (x ∷ values) = rule (not (test f kind x)) n (at ∷ []) ∷ field_rules test n kind (at + f.width) fields values

-- the base kind is the tenth value
abbrev pub value_rules : (Field → Test) → ℕ → List ℕ → List Rule
value_rules test n values = field_rules test n (get_or values 9 0) 0 stored_form values

-- refusal 7
abbrev pub range_rules : List ℕ → List Rule
range_rules values = value_rules (λ (f : Field). f.range) 7 values

-- ---- the values of a record

abbrev pub base_of : ℕ → ℕ → Base
base_of kind offset = get_or (Nothing ∷ Ram offset ∷ []) kind (External offset)

abbrev pub bit_of : Bool → ℕ
bit_of true = 1
bit_of false = 0

-- 8N + 4Z + 2C + V
abbrev pub flags_number : Flags → ℕ
flags_number f = 8 * bit_of f.n + 4 * bit_of f.z + 2 * bit_of f.c + bit_of f.v

abbrev pub flags_of : ℕ → Flags
flags_of x = record { n = bit x 3; z = bit x 2; c = bit x 1; v = bit x 0 }

abbrev pub values_of : Record → List ℕ
values_of r =
    r.regs ++ (r.sp ∷ kind_of r.base ∷ offset_of r.base ∷ r.place ∷ flags_number r.flags ∷ [])

abbrev pub record_of : List ℕ → Record
record_of values = record {
  regs = take 8 values;
  sp = get_or values 8 0;
  flags = flags_of (get_or values 12 0);
  place = get_or values 11 0;
  base = base_of (get_or values 9 0) (get_or values 10 0);
}

-- ---- the bytes of a record

abbrev pub record_bytes : Record → List ℕ
record_bytes r = encode stored_form (values_of r)

abbrev pub record_in : List ℕ → Record
record_in bytes = record_of (decode stored_form bytes)

-- they go to room of their length, and to no other
abbrev pub room_with : Record → List ℕ → List ℕ
room_with r room = cond (eqb (length room) form_length) (record_bytes r) room

-- ---- bytes of any record, fit or not: a term of the host's, which the build paper doesn't have

-- a number of the library's own, which no refusal of the papers has: the values are no record's
abbrev pub stand_rules : List ℕ → List Rule
stand_rules values = value_rules (λ (f : Field). f.stands) 255 values

-- nor are bytes of another length, at position 0
abbrev pub held_rules : List ℕ → List Rule
held_rules bytes = rule (not (eqb (length bytes) form_length)) 255 (0 ∷ []) ∷ stand_rules (decode stored_form bytes)

abbrev pub holds_record : List ℕ → Bool
holds_record bytes = is_accepted (decision (held_rules bytes))

-- ---- the records of the code

-- by the widths of their parts
pub record Held (r : Record) : Type 0 where
  pub eight : length r.regs ≡ 8
  pub words : (k : ℕ) → get_or r.regs k 0 < 2 ^ 32
  pub sp : r.sp < 2 ^ 32
  pub offset : offset_of r.base < 2 ^ 32
  pub place : r.place < 2 ^ 16
