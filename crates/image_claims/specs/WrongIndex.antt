-- A wrong index: what is claimed.
use Rattle.std.specs.Prelude.{ℕ, ◌<◌, List, [], ◌≡◌}
use Rattle.refusal.specs.Refusals.{accepted, refused, decision}
use Rattle.state.specs.declared.Record.{Record}
use Rattle.image.specs.Images.{pages_in, byte_of, page_rules}
use Rattle.image.specs.Index.{count_at}
use Rattle.image_runs.specs.ImageRuns.{ImageSetting, image_decision}

-- a byte of the index that isn't its page's count refuses a run by 21: whichever byte it is, in whatever page the run is, and whatever is
-- wrong behind it
abbrev pub WrongByteRefuses : Type 0
WrongByteRefuses = (setting : ImageSetting) (p q : ℕ) (r : Record) (ram : List ℕ) → decision (page_rules setting.image p) ≡ accepted
    → q < pages_in setting.image.bytes → (byte_of setting.image q ≡ count_at setting.image q → ⊥)
    → image_decision setting p r ram ≡ refused 21 []
