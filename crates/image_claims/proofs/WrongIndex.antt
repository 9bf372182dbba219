-- A byte of the index that isn't its page's count refuses a run by 21.
use native.Mathlib.Omega.{arith}
use mathlib.Core.List.{[], ◌∷◌}
use mathlib.Core.Path.{◌≡◌, sym, ◌∙◌}
use lib.ListN.{length}
use Rattle.refusal.specs.Refusals.{accepted, refused, decision}
use Rattle.refusal.proofs.Theorems.{after_lem}
use Rattle.image.specs.Images.{program_at, byte_of, page_rules}
use Rattle.image.specs.Index.{counts_in, index_rule}
use Rattle.image.proofs.Laws.{differ, other_byte}
use Rattle.image.proofs.Theorems.{has_page}
use Rattle.admission.specs.RunRefusals.{lent_rules, record_rules}
use Rattle.image_runs.specs.ImageRuns.{image_area_rules, image_decision}
use Rattle.image_claims.specs.WrongIndex.{WrongByteRefuses}

pub wrong_byte : WrongByteRefuses
unfolding image_decision
wrong_byte setting p q r ram e l wrong =
    let image = setting.image in
    let indexed = (has_page image p _ e).0.indexed in
    let lent = lent_rules setting.external setting.window ram in
    let not_equal = differ image.index (counts_in image) (other_byte image image.index indexed q (omega (arith, indexed)) wrong) in
    let areas : decision (image_area_rules setting p ram) ≡ refused 21 [] = after_lem (page_rules image p) (index_rule image ∷ lent) accepted (sym e) ∙ rw not_equal in
    after_lem (image_area_rules setting p ram) (record_rules (program_at image p) (byte_of image p) (length setting.external) r) (refused 21 []) (sym areas)
