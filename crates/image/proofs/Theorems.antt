-- What is known of an image that isn't refused.
use Prim.Native.Nat.{ℕ, ◌<◌}
use mathlib.Core.Bool.{true, not, cond}
use mathlib.Core.List.{List, []}
use mathlib.Core.Path.{◌≡◌}
use lib.Dec.{eqb, ltb}
use lib.ListN.{length}
use borrow.Author.Tests.{eqb-true, ltb-true}
use Rattle.refusal.specs.Refusals.{Decision, accepted, refused}
use Rattle.refusal.proofs.Theorems.{passes_lem}
use Rattle.isa.specs.Profiles.{is_known}
use Rattle.image.specs.Images.{Image, image_fits, pages_in}
use Rattle.image.specs.Index.{replace_decision}

-- it has the page, and its index is as long as it has to be
pub record HasPage (image : Image) (p : ℕ) : Type 0 where
  pub profile_known : is_known image.profile ≡ true
  pub sized : image_fits image.bytes ≡ true
  pub inside : p < pages_in image.bytes
  pub indexed : length image.index ≡ pages_in image.bytes

-- whatever is tested behind
pub has_page : (image : Image) (p : ℕ) (behind : Decision)
    → cond (not (is_known image.profile)) (refused 18 []) (cond (not (image_fits image.bytes)) (refused 12 [])
    (cond (not (ltb p (pages_in image.bytes))) (refused 13 []) (cond (not (eqb (length image.index) (pages_in image.bytes))) (refused 14 []) behind))) ≡ accepted
    → HasPage image p × (behind ≡ accepted)
has_page image p behind e =
    let known = passes_lem (is_known image.profile) 18 [] _ e in
    let sized = passes_lem (image_fits image.bytes) 12 [] _ known.1 in
    let number = passes_lem (ltb p (pages_in image.bytes)) 13 [] _ sized.1 in
    let index = passes_lem (eqb (length image.index) (pages_in image.bytes)) 14 [] behind number.1 in (
      record {
        profile_known = known.0;
        sized = sized.0;
        inside = ltb-true _ _ number.0;
        indexed = eqb-true _ _ index.0;
      },
      index.1,
    )

pub replace_accepted : (image : Image) (p : ℕ) (page : List ℕ) → replace_decision image p page ≡ accepted → HasPage image p × (length page ≡ 256)
replace_accepted image p page e =
    let has = has_page image p _ e in
    (has.0, eqb-true _ _ (passes_lem (eqb (length page) 256) 1 [] _ has.1).0)
