-- A page of an image, and what a run's decision says of it.
use Prim.Native.Nat.{ℕ, ◌*◌, ◌<◌}
use native.Mathlib.Omega.{arith}
use mathlib.Core.Bool.{true}
use mathlib.Core.List.{List}
use mathlib.Core.Path.{◌≡◌}
use lib.ListN.{length, drop, length-drop}
use lib.Seq.{length-take-le}
use Rattle.refusal.specs.Refusals.{accepted, decision, when_accepted}
use Rattle.refusal.proofs.Theorems.{in_turn}
use Rattle.page.specs.Page.{page_fits}
use Rattle.image.specs.Images.{pages_in, page_at, program_at, byte_of}
use Rattle.image.proofs.Theorems.{HasPage, has_page}
use Rattle.state.specs.declared.Record.{Record}
use Rattle.admission.specs.RunRefusals.{record_rules}
use Rattle.image_runs.specs.ImageRuns.{ImageSetting, image_area_rules, image_decision}

-- a page of an image has 256 bytes, which a lone page may have
page_length : (bytes : List ℕ) (p : ℕ) → p < pages_in bytes → length (page_at bytes p) ≡ 256
page_length bytes p l = length-take-le 256 (drop (256 * p) bytes) (omega (arith, length-drop (256 * p) bytes))

pub page_fits_lem : (bytes : List ℕ) (p : ℕ) → p < pages_in bytes → page_fits (page_at bytes p) ≡ true
unfolding page_fits
page_fits_lem bytes p l = rw (page_length bytes p l)

-- the image has the page where nothing is refused
pub runs_page : (setting : ImageSetting) (p : ℕ) (r : Record) (ram : List ℕ) → image_decision setting p r ram ≡ accepted → HasPage setting.image p
unfolding image_decision
runs_page setting p r ram e = (has_page setting.image p _ e).0

-- the record is looked at only where nothing that stands before it is refused
pub record_behind : (setting : ImageSetting) (p : ℕ) (r : Record) (ram : List ℕ)
    → image_decision setting p r ram
    ≡ when_accepted (decision (image_area_rules setting p ram))
    (decision (record_rules (program_at setting.image p) (byte_of setting.image p) (length setting.external) r)) (decision (image_area_rules setting p ram))
unfolding image_decision
record_behind setting p r ram =
    in_turn (image_area_rules setting p ram) (record_rules (program_at setting.image p) (byte_of setting.image p) (length setting.external) r)
