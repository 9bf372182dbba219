-- What demand 3 speaks of in an image: the machine of a page of it, with the code's own calls.
use Rattle.std.specs.Prelude.{ℕ, ◌<◌, true, ◌≡◌, length}
use contract.Lifetimes.{Lfts}
use borrow.Fn.World.{ArgsD, ResD}
use borrow.Fn.Kinds.{ended_of}
use denote.Triple.Clauses.{AtExit}
use Rattle.isa.specs.Profiles.{is_known}
use Rattle.window.specs.Windows.{window_fits}
use Rattle.platform.specs.Programs.{Program, Setting}
use Rattle.state.specs.Validation.{external_fits}
use Rattle.image.specs.Images.{image_fits, pages_in, program_at, byte_of}
use Rattle.image.specs.Index.{counts_in}
use Rattle.plain.specs.PlainMachine.{Result}
use Rattle.series.specs.Machine.{Handed, Kind, Machine, machine_of}
use Rattle.series.specs.Series.{State}
use Rattle.instruction.specs.Instructions.{instruction_of}
use Rattle.instruction.specs.Fitness.{FitBy, StartsBy, ServiceAt, Known}
use Rattle.machine.specs.Runs.{seen}
use Rattle.image_runs.specs.ImageRuns.{ImageSetting, seen_image_setting, setting_at, image_decision}
use Rattle.image_runs.specs.contracts.run as run
use Rattle.image_runs.proofs.run.Kinds as run-kinds
use Rattle.image_runs.proofs.run.Reads as run-reads
use Rattle.image_runs.specs.contracts.step as step
use Rattle.image_runs.proofs.step.Kinds as step-kinds
use Rattle.image_runs.proofs.step.Reads as step-reads

-- what a run in an image takes beside budget, record and RAM: the page's number is the same in a whole series
pub record InPage : Type 0 where
  pub setting : ImageSetting
  pub number : ℕ

abbrev pub program_in : InPage → Program
program_in x = program_at x.setting.image x.number

abbrev pub byte_in : InPage → ℕ
byte_in x = byte_of x.setting.image x.number

-- as a lone page
abbrev pub alone : InPage → Setting
alone x = setting_at x.setting x.number

-- all of it, none of which the papers refuse
pub record AllowedIn (x : InPage) : Type 0 where
  pub profile_known : is_known x.setting.image.profile ≡ true
  pub image_allowed : image_fits x.setting.image.bytes ≡ true
  pub number_allowed : x.number < pages_in x.setting.image.bytes
  pub index_right : x.setting.image.index ≡ counts_in x.setting.image
  pub external_allowed : external_fits (length x.setting.external) ≡ true
  pub window_allowed : window_fits x.setting.window ≡ true

-- what a series may start from: a fit record whose place is fit by the index byte of the page, and RAM of its size
abbrev pub FitStartIn : InPage → State → Type 0
FitStartIn x start = FitBy (alone x) (byte_in x) start.rec start.ram

-- the machine of a page of an image
abbrev pub image_page : Kind
image_page = record {
  Setting = InPage;
  instruction = λ x. instruction_of (alone x);
  decision = λ x. image_decision x.setting x.number;
  window = λ x. x.setting.window;
  Starts = λ x. StartsBy (program_in x) (byte_in x);
  ServiceAt = λ x. ServiceAt (program_in x);
  Known = Known;
}

-- ---- the code's calls

-- a call of `run` or `step` as the checker reads it: the arguments (setting, the page's number, RAM, record and, for `run`, the budget), the
-- answer, what is lent at exit, and all that is known of them: the contract
pub data ImageCall : Type 0 where
  of_run : (κs : Lfts 3) (a : ArgsD run.signature κs) (x : ResD run.signature κs) (s : AtExit (ended_of 3 run-kinds.ps run-kinds.r) κs)
      → run-reads.Post κs a x s → ImageCall
  of_step : (κs : Lfts 3) (a : ArgsD step.signature κs) (x : ResD step.signature κs) (s : AtExit (ended_of 3 step-kinds.ps step-kinds.r) κs)
      → step-reads.Post κs a x s → ImageCall

abbrev pub handed_to : ImageCall → Handed InPage
handed_to (of_run κs a x s contract) = record {
  setting = record {
    setting = seen_image_setting a.0.now;
    number = a.1.0;
  };
  budget = a.1.1.1.1.0;
  rec = a.1.1.1.0;
  ram = a.1.1.0.now;
}
handed_to (of_step κs a x s contract) = record {
  setting = record {
    setting = seen_image_setting a.0.now;
    number = a.1.0;
  };
  budget = 1;
  rec = a.1.1.1.0;
  ram = a.1.1.0.now;
}

abbrev pub gave_by : ImageCall → Result
gave_by (of_run κs a x s contract) = seen x s.1.1.0.now
gave_by (of_step κs a x s contract) = seen x s.1.1.0.now

abbrev pub image_machine : InPage → Machine
image_machine = machine_of image_page ImageCall handed_to gave_by
