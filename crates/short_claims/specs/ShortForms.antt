-- The short form and the 44-byte form: what is claimed of calls, each known by its contract alone.
use Rattle.std.specs.Prelude.{ℕ, ◌<◌, ◌≤◌, List, ◌++◌, ◌≡◌, length, get_or, take, drop}
use contract.Lifetimes.{Lfts}
use borrow.Fn.World.{ArgsD, ResD}
use borrow.Fn.Kinds.{ended_of}
use denote.Triple.Clauses.{AtExit}
use Rattle.refusal.specs.Refusals.{accepted, decision, decision_of}
use Rattle.state.specs.declared.Record.{Record}
use Rattle.layout.specs.StoredForm.{Held}
use Rattle.form.specs.Storing.{LoadAnswer, load_rules, seen_read_back}
use Rattle.short_form.specs.ShortStoring.{seen_packed, read_rules}
use Rattle.conversion.specs.Conversion.{packed, unpacked}
use Rattle.short_form.specs.contracts.write
use Rattle.short_form.proofs.write.Kinds as write-kinds
use Rattle.short_form.proofs.write.Reads as write-reads
use Rattle.short_form.specs.contracts.read
use Rattle.short_form.proofs.read.Kinds as read-kinds
use Rattle.short_form.proofs.read.Reads as read-reads
use Rattle.packing.specs.contracts.pack
use Rattle.packing.proofs.pack.Kinds as pack-kinds
use Rattle.packing.proofs.pack.Reads as pack-reads
use Rattle.packing.specs.contracts.unpack
use Rattle.packing.proofs.unpack.Kinds as unpack-kinds
use Rattle.packing.proofs.unpack.Reads as unpack-reads

-- the type of a slice of bytes says that they are below 256
abbrev pub Bytes : List ℕ → Type 0
Bytes xs = (k : ℕ) → get_or xs k 0 < 256

-- ---- calls as the checker reads them: arguments, answer, what is lent at exit, and all that is known of them

-- of `pack`: a stored form and the room
pub record PackCall : Type 0 where
  pub κs : Lfts 2
  pub arguments : ArgsD pack.signature κs
  pub answer : ResD pack.signature κs
  pub left : AtExit (ended_of 2 pack-kinds.ps pack-kinds.r) κs
  pub bytes : Bytes arguments.0.now
  pub contract : pack-reads.Post κs arguments answer left

-- of `unpack`: a short form and the room
pub record UnpackCall : Type 0 where
  pub κs : Lfts 2
  pub arguments : ArgsD unpack.signature κs
  pub answer : ResD unpack.signature κs
  pub left : AtExit (ended_of 2 unpack-kinds.ps unpack-kinds.r) κs
  pub bytes : Bytes arguments.0.now
  pub contract : unpack-reads.Post κs arguments answer left

-- of `write`: a record, whose parts have their widths, and the room
pub record WriteCall : Type 0 where
  pub κs : Lfts 1
  pub arguments : ArgsD write.signature κs
  pub answer : ResD write.signature κs
  pub left : AtExit (ended_of 1 write-kinds.ps write-kinds.r) κs
  pub held : Held arguments.0
  pub contract : write-reads.Post κs arguments answer left

-- of `read`: a short form
pub record ReadCall : Type 0 where
  pub κs : Lfts 1
  pub arguments : ArgsD read.signature κs
  pub answer : ResD read.signature κs
  pub left : AtExit (ended_of 1 read-kinds.ps read-kinds.r) κs
  pub bytes : Bytes arguments.0.now
  pub contract : read-reads.Post κs arguments answer left

-- ---- what they were handed, and what came back

abbrev pub stored : PackCall → List ℕ
stored c = c.arguments.0.now

abbrev pub pack_room : PackCall → List ℕ
pack_room c = c.arguments.1.0.now

abbrev pub pack_left : PackCall → List ℕ
pack_left c = c.left.1.0.now

-- the form, by the length that is answered
abbrev pub packed_by : PackCall → List ℕ
packed_by c = take (seen_packed c.answer).length (pack_left c)

abbrev pub pack_accepts : PackCall → Type 0
pack_accepts c = decision_of c.answer ≡ accepted

abbrev pub short : UnpackCall → List ℕ
short c = c.arguments.0.now

abbrev pub unpack_room : UnpackCall → List ℕ
unpack_room c = c.arguments.1.0.now

abbrev pub unpack_left : UnpackCall → List ℕ
unpack_left c = c.left.1.0.now

abbrev pub unpack_accepts : UnpackCall → Type 0
unpack_accepts c = decision_of c.answer ≡ accepted

abbrev pub written : WriteCall → Record
written c = c.arguments.0

abbrev pub write_room : WriteCall → List ℕ
write_room c = c.arguments.1.0.now

abbrev pub write_left : WriteCall → List ℕ
write_left c = c.left.1.0.now

abbrev pub written_by : WriteCall → List ℕ
written_by c = take (seen_packed c.answer).length (write_left c)

abbrev pub write_accepts : WriteCall → Type 0
write_accepts c = decision_of c.answer ≡ accepted

abbrev pub read_from : ReadCall → List ℕ
read_from c = c.arguments.0.now

abbrev pub read_answer : ReadCall → LoadAnswer
read_answer c = seen_read_back c.answer

-- ---- the claims

-- what is written of a form: 12 to 49 bytes at the start of the room; the others stay
pub record WrittenTo (form : List ℕ) (room left : List ℕ) : Type 0 where
  pub at_least : 12 ≤ length form
  pub at_most : length form ≤ 49
  pub inside : length form ≤ length room
  pub whole : left ≡ form ++ drop (length form) room

pub record ShortForms : Type 0 where
  -- from 44 bytes to the short form and back, in any room of 44 bytes: the same bytes
  pub out_and_back : (p : PackCall) (u : UnpackCall) → pack_accepts p → short u ≡ packed_by p → length (unpack_room u) ≡ 44
      → unpack_accepts u × (unpack_left u ≡ stored p)
  -- from the short form to 44 bytes and back, in any room that is long enough: the same bytes
  pub in_and_out : (u : UnpackCall) (p : PackCall) → unpack_accepts u → stored p ≡ unpack_left u → length (short u) ≤ length (pack_room p)
      → pack_accepts p × (packed_by p ≡ short u)
  -- and so do the programs, by what they write
  pub programs_out : (bytes : List ℕ) → Bytes bytes → decision (load_rules bytes) ≡ accepted → unpacked (packed bytes) ≡ bytes
  pub programs_in : (bytes : List ℕ) → Bytes bytes → decision (read_rules bytes) ≡ accepted → packed (unpacked bytes) ≡ bytes
  -- reading what was written gives the record
  pub written_reads : (w : WriteCall) (r : ReadCall) → write_accepts w → read_from r ≡ written_by w
      → read_answer r ≡ record { decision = accepted; loaded = written w }
  -- and writing what was read gives the bytes, in any room that is long enough
  pub read_writes : (r : ReadCall) (w : WriteCall) → (read_answer r).decision ≡ accepted → written w ≡ (read_answer r).loaded → length (read_from r) ≤ length (write_room w)
      → write_accepts w × (written_by w ≡ read_from r)
  -- where the form stands, and how long it is
  pub pack_leaves : (p : PackCall) → pack_accepts p → WrittenTo (packed_by p) (pack_room p) (pack_left p)
  pub write_leaves : (w : WriteCall) → write_accepts w → WrittenTo (written_by w) (write_room w) (write_left w)
  -- what is accepted has 12 to 49 bytes
  pub unpack_length : (u : UnpackCall) → unpack_accepts u → (12 ≤ length (short u)) × (length (short u) ≤ 49)
  pub read_length : (r : ReadCall) → (read_answer r).decision ≡ accepted → (12 ≤ length (read_from r)) × (length (read_from r) ≤ 49)
