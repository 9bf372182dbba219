-- The code's calls of `build` and `replace`.
use contract.Lifetimes.{Lfts}
use borrow.Fn.World.{ArgsD, ResD}
use borrow.Fn.Kinds.{ended_of}
use denote.Triple.Clauses.{AtExit}
use Rattle.std.specs.Prelude.{ℕ, List}
use Rattle.refusal.specs.Refusals.{Decision, decision_of}
use Rattle.image.specs.Images.{Image, image_of}
use Rattle.image.specs.contracts.build as build
use Rattle.image.proofs.build.Kinds as build-kinds
use Rattle.image.proofs.build.Reads as build-reads
use Rattle.image.specs.contracts.replace as replace
use Rattle.image.proofs.replace.Kinds as replace-kinds
use Rattle.image.proofs.replace.Reads as replace-reads
use Rattle.image_claims.specs.Replacements.{Building}

-- a call of `build` as the checker reads it: the arguments (image, index and platform), the answer, what is lent at exit, and all that is
-- known of them: the contract
pub data BuildCall : Type 0 where
  of_build : (κs : Lfts 2) (a : ArgsD build.signature κs) (x : ResD build.signature κs) (s : AtExit (ended_of 2 build-kinds.ps build-kinds.r) κs)
      → build-reads.Post κs a x s → BuildCall

-- of `replace`: image, index, platform, the page's number, and the page
pub data ReplaceCall : Type 0 where
  of_replace : (κs : Lfts 3) (a : ArgsD replace.signature κs) (x : ResD replace.signature κs) (s : AtExit (ended_of 3 replace-kinds.ps replace-kinds.r) κs)
      → replace-reads.Post κs a x s → ReplaceCall

abbrev pub built_by : BuildCall → Image
built_by (of_build κs a x s contract) = image_of a.0.now s.1.0.now a.1.1.0

abbrev pub build_told : BuildCall → Decision
build_told (of_build κs a x s contract) = decision_of x

abbrev pub handed_image : ReplaceCall → Image
handed_image (of_replace κs a x s contract) = image_of a.0.now a.1.0.now a.1.1.0

abbrev pub number_in : ReplaceCall → ℕ
number_in (of_replace κs a x s contract) = a.1.1.1.0

abbrev pub page_in : ReplaceCall → List ℕ
page_in (of_replace κs a x s contract) = a.1.1.1.1.0.now

abbrev pub replace_told : ReplaceCall → Decision
replace_told (of_replace κs a x s contract) = decision_of x

abbrev pub left_image : ReplaceCall → Image
left_image (of_replace κs a x s contract) = image_of s.0.now s.1.0.now a.1.1.0

abbrev pub code_building : Building
code_building = record {
  Build = BuildCall;
  built = built_by;
  build_told = build_told;
  Replace = ReplaceCall;
  handed = handed_image;
  number = number_in;
  page = page_in;
  told = replace_told;
  left = left_image;
}
