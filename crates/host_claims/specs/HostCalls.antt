-- The host's calls of `mb_raw_run` and `mb_raw_step`: what each was lent, and what came back.
use contract.Lifetimes.{Lfts}
use borrow.Fn.World.{ArgsD, ResD}
use borrow.Fn.Kinds.{ended_of}
use denote.Triple.Clauses.{AtExit}
use Rattle.window.specs.Windows.{window_of}
use Rattle.platform.specs.Platforms.{platform_of}
use Rattle.platform.specs.Programs.{Setting, program_of, setting_of}
use Rattle.claims.specs.Demand3.{lone_page}
use Rattle.admission.specs.RunRefusals.{area_rules}
use Rattle.hosting.specs.Crossed.{Crossed, answered}
use Rattle.host_series.specs.Host.{Lent, Bytes, Host}
use Rattle.marshbodkin.specs.contracts.mb_raw_run as mb_raw_run
use Rattle.marshbodkin.proofs.mb_raw_run.Kinds as run-kinds
use Rattle.marshbodkin.proofs.mb_raw_run.Reads as run-reads
use Rattle.marshbodkin.specs.contracts.mb_raw_step as mb_raw_step
use Rattle.marshbodkin.proofs.mb_raw_step.Kinds as step-kinds
use Rattle.marshbodkin.proofs.mb_raw_step.Reads as step-reads

pub record LentBytes (l : Lent Setting) : Type 0 where
  pub page : Bytes l.setting.program.page
  pub external : Bytes l.setting.external
  pub bytes : Bytes l.bytes
  pub ram : Bytes l.ram

-- page, the set of syscalls that never return, the profile's number, RAM, external data, the window's start and end, the record's bytes
-- and, for `mb_raw_run`, the budget
abbrev pub lent_run : (κs : Lfts 9) → ArgsD mb_raw_run.signature κs → Lent Setting
lent_run κs a = record {
  setting = setting_of (program_of a.0.now (platform_of a.1.0 a.1.1.0)) a.1.1.1.1.0.now (window_of a.1.1.1.1.1.0 a.1.1.1.1.1.1.0);
  budget = a.1.1.1.1.1.1.1.1.0;
  bytes = a.1.1.1.1.1.1.1.0.now;
  ram = a.1.1.1.0.now;
}

abbrev pub lent_step : (κs : Lfts 9) → ArgsD mb_raw_step.signature κs → Lent Setting
lent_step κs a = record {
  setting = setting_of (program_of a.0.now (platform_of a.1.0 a.1.1.0)) a.1.1.1.1.0.now (window_of a.1.1.1.1.1.0 a.1.1.1.1.1.1.0);
  budget = 1;
  bytes = a.1.1.1.1.1.1.1.0.now;
  ram = a.1.1.1.0.now;
}

-- a call as the checker reads it: its arguments, its code, what is lent at exit, and all that is known of them: that bytes are
-- bytes, and the contract
pub data HostCall : Type 0 where
  of_run : (κs : Lfts 9) (a : ArgsD mb_raw_run.signature κs) (x : ResD mb_raw_run.signature κs) (s : AtExit (ended_of 9 run-kinds.ps run-kinds.r) κs)
      → LentBytes (lent_run κs a) → run-reads.Post κs a x s → HostCall
  of_step : (κs : Lfts 9) (a : ArgsD mb_raw_step.signature κs) (x : ResD mb_raw_step.signature κs) (s : AtExit (ended_of 9 step-kinds.ps step-kinds.r) κs)
      → LentBytes (lent_step κs a) → step-reads.Post κs a x s → HostCall

abbrev pub lent_to : HostCall → Lent Setting
lent_to (of_run κs a x s bytes contract) = lent_run κs a
lent_to (of_step κs a x s bytes contract) = lent_step κs a

-- the code, kind, value, literal, position, steps, the record's bytes and RAM
abbrev pub crossed_by : HostCall → Crossed
crossed_by (of_run κs a x s bytes contract) =
    answered x s.1.1.1.1.1.1.1.1.1.0.now s.1.1.1.1.1.1.1.1.1.1.0.now s.1.1.1.1.1.1.1.1.1.1.1.0.now
    s.1.1.1.1.1.1.1.1.1.1.1.1.0.now s.1.1.1.1.1.1.1.1.1.1.1.1.1.0.now s.1.1.1.1.1.1.1.0.now s.1.1.1.0.now
crossed_by (of_step κs a x s bytes contract) =
    answered x s.1.1.1.1.1.1.1.1.0.now s.1.1.1.1.1.1.1.1.1.0.now s.1.1.1.1.1.1.1.1.1.1.0.now
    s.1.1.1.1.1.1.1.1.1.1.1.0.now s.1.1.1.1.1.1.1.1.1.1.1.1.0.now s.1.1.1.1.1.1.1.0.now s.1.1.1.0.now

-- the host of a page by itself. Bytes that hold no record it refuses by 18, 1, 2, 3 or 20, or by 255 with the position
abbrev pub lone_host : Host
lone_host = record {
  kind = lone_page;
  areas = area_rules;
  Call = HostCall;
  lent = lent_to;
  crossed = crossed_by;
}
