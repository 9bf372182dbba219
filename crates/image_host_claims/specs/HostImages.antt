-- The host's calls of `mb_raw_image_build` and `mb_raw_image_replace`, which answer a code: 0, or a refusal's number.
use contract.Lifetimes.{Lfts}
use borrow.Fn.World.{ArgsD, ResD}
use borrow.Fn.Kinds.{ended_of}
use denote.Triple.Clauses.{AtExit}
use Rattle.std.specs.Prelude.{ℕ, zero, suc, List, []}
use Rattle.refusal.specs.Refusals.{Decision, accepted, refused}
use Rattle.platform.specs.Platforms.{platform_of}
use Rattle.image.specs.Images.{Image, image_of}
use Rattle.image_claims.specs.Replacements.{Building}
use Rattle.marshbodkin.specs.contracts.mb_raw_image_build as mb_raw_image_build
use Rattle.marshbodkin.proofs.mb_raw_image_build.Kinds as build-kinds
use Rattle.marshbodkin.proofs.mb_raw_image_build.Reads as build-reads
use Rattle.marshbodkin.specs.contracts.mb_raw_image_replace as mb_raw_image_replace
use Rattle.marshbodkin.proofs.mb_raw_image_replace.Kinds as replace-kinds
use Rattle.marshbodkin.proofs.mb_raw_image_replace.Reads as replace-reads

-- what a code says; these calls' refusals carry no value
abbrev pub decision_in : ℕ → Decision
decision_in zero = accepted
decision_in (suc n) = refused (suc n) []

-- a call as the checker reads it: the arguments (image, index, set and profile), the code, what is lent at exit, and the contract
pub data HostBuild : Type 0 where
  of_build : (κs : Lfts 2) (a : ArgsD mb_raw_image_build.signature κs) (x : ResD mb_raw_image_build.signature κs)
      (s : AtExit (ended_of 2 build-kinds.ps build-kinds.r) κs) → build-reads.Post κs a x s → HostBuild

-- the same, then the page's number and the page
pub data HostReplace : Type 0 where
  of_replace : (κs : Lfts 3) (a : ArgsD mb_raw_image_replace.signature κs) (x : ResD mb_raw_image_replace.signature κs)
      (s : AtExit (ended_of 3 replace-kinds.ps replace-kinds.r) κs) → replace-reads.Post κs a x s → HostReplace

abbrev pub built_by : HostBuild → Image
built_by (of_build κs a x s contract) = image_of a.0.now s.1.0.now (platform_of a.1.1.0 a.1.1.1.0)

abbrev pub build_told : HostBuild → Decision
build_told (of_build κs a x s contract) = decision_in x

abbrev pub handed_image : HostReplace → Image
handed_image (of_replace κs a x s contract) = image_of a.0.now a.1.0.now (platform_of a.1.1.0 a.1.1.1.0)

abbrev pub number_in : HostReplace → ℕ
number_in (of_replace κs a x s contract) = a.1.1.1.1.0

abbrev pub page_in : HostReplace → List ℕ
page_in (of_replace κs a x s contract) = a.1.1.1.1.1.0.now

abbrev pub replace_told : HostReplace → Decision
replace_told (of_replace κs a x s contract) = decision_in x

abbrev pub left_image : HostReplace → Image
left_image (of_replace κs a x s contract) = image_of s.0.now s.1.0.now (platform_of a.1.1.0 a.1.1.1.0)

abbrev pub host_building : Building
host_building = record {
  Build = HostBuild;
  built = built_by;
  build_told = build_told;
  Replace = HostReplace;
  handed = handed_image;
  number = number_in;
  page = page_in;
  told = replace_told;
  left = left_image;
}
