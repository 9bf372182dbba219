-- Demand 2, the count and the reader: what is claimed of their answers.
use Rattle.std.specs.Prelude.{ℕ, suc, ◌≤◌, ◌<◌, ◌≡◌, true, false, List, [], ◌∷◌, ◌⊎◌}
use contract.Lifetimes.{Lfts}
use borrow.Fn.World.{ArgsD, ResD}
use borrow.Fn.Kinds.{ended_of}
use denote.Triple.Clauses.{AtExit}
use Rattle.refusal.specs.Refusals.{accepted, refused}
use Rattle.page.specs.Page.{page_fits, bundles_in}
use Rattle.isa.specs.Profiles.{is_known}
use Rattle.platform.specs.Programs.{Program, program_of, seen_program}
use Rattle.platform.specs.declared.Platform.{Platform}
use Rattle.prefix.specs.Prefix.{Successors, bad, goes, AllBelow, Greatest, single_pass, iterated}
use Rattle.prefix.specs.LargestSuccessor.{Reading, bad_bundle, no_successor, largest}
use Rattle.bundle.specs.Successors.{successors_of}
use Rattle.bundle.specs.Reader.{ReaderAnswer, read_bundle, seen_read}
use Rattle.bundle.specs.contracts.read_bundle
use Rattle.bundle.proofs.read_bundle.Kinds as read-kinds
use Rattle.bundle.proofs.read_bundle.Reads as read-reads
use Rattle.count.specs.Count.{CountAnswer, count_program, seen_count}
use Rattle.count.specs.contracts.count
use Rattle.count.proofs.count.Kinds as count-kinds
use Rattle.count.proofs.count.Reads as count-reads

-- ---- the count

-- what is claimed of a number, for a program
pub record IsCount (program : Program) (m : ℕ) : Type 0 where
  -- every bundle below it is allowed and all its successors lie below it; no larger prefix up to the page's bundles has this
  pub greatest : Greatest (successors_of program) (bundles_in program.page) m
  -- it lies from 0 to 64
  pub at_most : m ≤ 64
  -- no other number is so
  pub only : (n : ℕ) → Greatest (successors_of program) (bundles_in program.page) n → n ≡ m
  -- document 000's single pass and its iterated form give it
  pub by_single_pass : single_pass (successors_of program) (bundles_in program.page) ≡ m
  pub by_iteration : iterated (successors_of program) (bundles_in program.page) ≡ m

-- of an answer: under a known profile a page of an allowed length is accepted and counted, and any other is refused with 1; under an
-- unknown one every page is refused with 18; refused, the count is 0
pub record Counts (program : Program) (a : CountAnswer) : Type 0 where
  pub allowed : is_known program.profile ≡ true → page_fits program.page ≡ true → (a.decision ≡ accepted) × IsCount program a.count
  pub not_allowed : is_known program.profile ≡ true → page_fits program.page ≡ false → (a.decision ≡ refused 1 []) × (a.count ≡ 0)
  pub unknown : is_known program.profile ≡ false → (a.decision ≡ refused 18 []) × (a.count ≡ 0)

-- ---- the reader

-- n is one of them
abbrev pub OneOf : ℕ → List ℕ → Type 0
OneOf n [] = ⊥
OneOf n (s ∷ ss) = (n ≡ s) ⊎ OneOf n ss

-- what the reader's answer says of a bundle: it is bad; it has no successor; the largest is n, one of them and none above it
abbrev pub Says : Reading → Successors → Type 0
Says bad_bundle x = x ≡ bad
Says no_successor x = x ≡ goes []
Says (largest n) x = (ss : List ℕ) × (x ≡ goes ss) × OneOf n ss × AllBelow (suc n) ss

-- of an answer: under a known profile a bundle of a page of an allowed length is read, one past the page is refused with 8, any of
-- another page with 1; under an unknown one any is refused with 18; refused, it is bad
pub record Reads (program : Program) (k : ℕ) (a : ReaderAnswer) : Type 0 where
  pub inside : is_known program.profile ≡ true → page_fits program.page ≡ true → k < bundles_in program.page
      → (a.decision ≡ accepted) × Says a.reading (successors_of program k)
  pub past : is_known program.profile ≡ true → page_fits program.page ≡ true → bundles_in program.page ≤ k
      → (a.decision ≡ refused 8 []) × (a.reading ≡ bad_bundle)
  pub not_allowed : is_known program.profile ≡ true → page_fits program.page ≡ false → (a.decision ≡ refused 1 []) × (a.reading ≡ bad_bundle)
  pub unknown : is_known program.profile ≡ false → (a.decision ≡ refused 18 []) × (a.reading ≡ bad_bundle)

-- ---- the demand

-- of a program, whatever its page, its set of syscalls and its set of listed encodings are
pub record Demand2 (program : Program) : Type 0 where
  pub counted : Counts program (count_program program)
  pub read : (k : ℕ) → Reads program k (read_bundle program k)

-- a call of `count` as the checker reads it: the argument (the program), the answer, what is lent at exit, and all that is known
-- of them: the contract
pub record CountCall : Type 1 where
  pub κs : Lfts 2
  pub arguments : ArgsD count.signature κs
  pub answer : ResD count.signature κs
  pub left : AtExit (ended_of 2 count-kinds.ps count-kinds.r) κs
  pub contract : count-reads.Post κs arguments answer left

-- the page and the platform that it was handed
abbrev pub count_page : CountCall → List ℕ
count_page c = c.arguments.0.now.page.now

abbrev pub count_platform : CountCall → Platform
count_platform c = c.arguments.0.now.platform

-- a call of `read_bundle`; its second argument is the number of the bundle
pub record ReadCall : Type 1 where
  pub κs : Lfts 2
  pub arguments : ArgsD read_bundle.signature κs
  pub answer : ResD read_bundle.signature κs
  pub left : AtExit (ended_of 2 read-kinds.ps read-kinds.r) κs
  pub contract : read-reads.Post κs arguments answer left

abbrev pub read_program : ReadCall → Program
read_program c = seen_program c.arguments.0.now

-- of the code's calls
pub record CallsMeetDemand2 : Type 1 where
  pub counted : (c : CountCall) → Counts (program_of (count_page c) (count_platform c)) (seen_count c.answer)
  pub read : (c : ReadCall) → Reads (read_program c) c.arguments.1.0 (seen_read c.answer)
