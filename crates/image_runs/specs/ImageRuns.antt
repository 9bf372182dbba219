-- Steps and runs in a page of an image. They refuse 18, 12, 13, 14, 21, then 2, 3, 20, then 41 to 44, then 5.
use Rattle.std.specs.Prelude.{ℕ, List, ◌∷◌, ◌++◌, length}
use Rattle.refusal.specs.Refusals.{Decision, Rule, decision}
use Rattle.window.specs.declared.Window.{Window}
use Rattle.platform.specs.Programs.{Setting, setting_of}
use Rattle.image.specs.Images.{Image, seen_image, program_at, byte_of, page_rules}
use Rattle.image.specs.Index.{index_rule}
use Rattle.state.specs.declared.Record.{Record}
use Rattle.admission.specs.RunRefusals.{lent_rules, record_rules}
use Rattle.plain.specs.PlainMachine.{Result}
use Rattle.plain.specs.Calls.{call_by}
use Rattle.instruction.specs.Instructions.{instruction_of}
use Rattle.image_runs.specs.declared.ImageSetting as declared

-- an image, the external data and the window of RAM
pub record ImageSetting : Type 0 where
  pub image : Image
  pub external : List ℕ
  pub window : Window

abbrev pub image_setting_of : Image → List ℕ → Window → ImageSetting
image_setting_of image external window = record { image = image; external = external; window = window }

-- the code's own
abbrev pub seen_image_setting : declared.ImageSetting → ImageSetting
seen_image_setting s = image_setting_of (seen_image s.image) s.external.now s.window

-- what an instruction in page p gets: the page as a program, the same data and window
abbrev pub setting_at : ImageSetting → ℕ → Setting
setting_at setting p = setting_of (program_at setting.image p) setting.external setting.window

-- before the record is looked at: 18, 12, 13, 14, 21, 2, 3, 20
abbrev pub image_area_rules : ImageSetting → ℕ → List ℕ → List Rule
image_area_rules setting p ram =
    page_rules setting.image p ++ (index_rule setting.image ∷ lent_rules setting.external setting.window ram)

-- then 41 to 44, 5; whether the place is fit goes by the index byte of page p
abbrev pub image_run_rules : ImageSetting → ℕ → Record → List ℕ → List Rule
image_run_rules setting p r ram =
    image_area_rules setting p ram
    ++ record_rules (program_at setting.image p) (byte_of setting.image p) (length setting.external) r

unfoldable pub image_decision : ImageSetting → ℕ → Record → List ℕ → Decision
image_decision setting p r ram = decision (image_run_rules setting p r ram)

-- the plain machine's run in page p, or the refusal
abbrev pub image_run_of : ImageSetting → ℕ → ℕ → Record → List ℕ → Result
image_run_of setting p total r ram = call_by (image_decision setting p r ram) (instruction_of (setting_at setting p)) total r ram
