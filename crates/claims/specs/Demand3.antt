-- What demand 3 speaks of: the machine of the build paper, with the code's own calls.
use contract.Lifetimes.{Lfts}
use borrow.Fn.World.{ArgsD, ResD}
use borrow.Fn.Kinds.{ended_of}
use denote.Triple.Clauses.{AtExit}
use Rattle.std.specs.Prelude.{true, ◌≡◌, length}
use Rattle.page.specs.Page.{page_fits}
use Rattle.isa.specs.Profiles.{is_known}
use Rattle.window.specs.Windows.{window_fits}
use Rattle.platform.specs.Programs.{Setting, seen_setting}
use Rattle.state.specs.Validation.{external_fits}
use Rattle.plain.specs.PlainMachine.{Result}
use Rattle.series.specs.Machine.{Handed, Kind, Machine, machine_of}
use Rattle.series.specs.Series.{State}
use Rattle.instruction.specs.Instructions.{instruction_of}
use Rattle.instruction.specs.Fitness.{Fit, Starts, ServiceAt, Known}
use Rattle.admission.specs.RunRefusals.{run_decision}
use Rattle.machine.specs.Runs.{seen}
use Rattle.machine.specs.contracts.run as run
use Rattle.machine.proofs.run.Kinds as run-kinds
use Rattle.machine.proofs.run.Reads as run-reads
use Rattle.machine.specs.contracts.step as step
use Rattle.machine.proofs.step.Kinds as step-kinds
use Rattle.machine.proofs.step.Reads as step-reads

-- a setting, none of which the papers refuse
pub record Allowed (s : Setting) : Type 0 where
  pub profile_known : is_known s.program.profile ≡ true
  pub page_allowed : page_fits s.program.page ≡ true
  pub external_allowed : external_fits (length s.external) ≡ true
  pub window_allowed : window_fits s.window ≡ true

-- what a series may start from: a fit record with a fit place, and RAM of its size
abbrev pub FitStart : Setting → State → Type 0
FitStart setting start = Fit setting start.rec start.ram

-- the build paper's machine, with a page by itself
abbrev pub lone_page : Kind
lone_page = record {
  Setting = Setting;
  instruction = instruction_of;
  decision = run_decision;
  window = λ s. s.window;
  Starts = λ s. Starts s.program;
  ServiceAt = λ s. ServiceAt s.program;
  Known = Known;
}

-- ---- the code's calls

-- a call of `run` or `step` as the checker reads it: the arguments (setting, RAM, record and, for `run`, the budget), the answer, what is
-- lent at exit, and all that is known of them: the contract
pub data CodeCall : Type 0 where
  of_run : (κs : Lfts 3) (a : ArgsD run.signature κs) (x : ResD run.signature κs) (s : AtExit (ended_of 3 run-kinds.ps run-kinds.r) κs)
      → run-reads.Post κs a x s → CodeCall
  of_step : (κs : Lfts 3) (a : ArgsD step.signature κs) (x : ResD step.signature κs) (s : AtExit (ended_of 3 step-kinds.ps step-kinds.r) κs)
      → step-reads.Post κs a x s → CodeCall

abbrev pub handed_to : CodeCall → Handed Setting
handed_to (of_run κs a x s contract) = record { setting = seen_setting a.0.now; budget = a.1.1.1.0; rec = a.1.1.0; ram = a.1.0.now }
handed_to (of_step κs a x s contract) = record { setting = seen_setting a.0.now; budget = 1; rec = a.1.1.0; ram = a.1.0.now }

abbrev pub gave_by : CodeCall → Result
gave_by (of_run κs a x s contract) = seen x s.1.0.now
gave_by (of_step κs a x s contract) = seen x s.1.0.now

-- the machine with the code's own calls
abbrev pub machine : Setting → Machine
machine = machine_of lone_page CodeCall handed_to gave_by
