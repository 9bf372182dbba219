-- The host's calls of `mb_raw_image_run` and `mb_raw_image_step`: what each was lent, and what came back.
use contract.Lifetimes.{Lfts}
use borrow.Fn.World.{ArgsD, ResD}
use borrow.Fn.Kinds.{ended_of}
use denote.Triple.Clauses.{AtExit}
use Rattle.window.specs.Windows.{window_of}
use Rattle.platform.specs.Platforms.{platform_of}
use Rattle.image.specs.Images.{image_of}
use Rattle.image_runs.specs.ImageRuns.{image_setting_of, image_area_rules}
use Rattle.image_claims.specs.ImageMachine.{InPage, image_page}
use Rattle.hosting.specs.Crossed.{Crossed, answered}
use Rattle.host_series.specs.Host.{Lent, Bytes, Host}
use Rattle.marshbodkin.specs.contracts.mb_raw_image_run as mb_raw_image_run
use Rattle.marshbodkin.proofs.mb_raw_image_run.Kinds as run-kinds
use Rattle.marshbodkin.proofs.mb_raw_image_run.Reads as run-reads
use Rattle.marshbodkin.specs.contracts.mb_raw_image_step as mb_raw_image_step
use Rattle.marshbodkin.proofs.mb_raw_image_step.Kinds as step-kinds
use Rattle.marshbodkin.proofs.mb_raw_image_step.Reads as step-reads

pub record LentBytes (l : Lent InPage) : Type 0 where
  pub image : Bytes l.setting.setting.image.bytes
  pub index : Bytes l.setting.setting.image.index
  pub external : Bytes l.setting.setting.external
  pub bytes : Bytes l.bytes
  pub ram : Bytes l.ram

-- image, index, the set of syscalls that never return, the profile's number, the page's number, RAM, external data, the window's start and
-- end, the record's bytes and, for `mb_raw_image_run`, the budget
abbrev pub lent_run : (κs : Lfts 10) → ArgsD mb_raw_image_run.signature κs → Lent InPage
lent_run κs a = record {
  setting = record {
    setting = image_setting_of (image_of a.0.now a.1.0.now (platform_of a.1.1.0 a.1.1.1.0)) a.1.1.1.1.1.1.0.now (window_of a.1.1.1.1.1.1.1.0 a.1.1.1.1.1.1.1.1.0);
    number = a.1.1.1.1.0;
  };
  budget = a.1.1.1.1.1.1.1.1.1.1.0;
  bytes = a.1.1.1.1.1.1.1.1.1.0.now;
  ram = a.1.1.1.1.1.0.now;
}

abbrev pub lent_step : (κs : Lfts 10) → ArgsD mb_raw_image_step.signature κs → Lent InPage
lent_step κs a = record {
  setting = record {
    setting = image_setting_of (image_of a.0.now a.1.0.now (platform_of a.1.1.0 a.1.1.1.0)) a.1.1.1.1.1.1.0.now (window_of a.1.1.1.1.1.1.1.0 a.1.1.1.1.1.1.1.1.0);
    number = a.1.1.1.1.0;
  };
  budget = 1;
  bytes = a.1.1.1.1.1.1.1.1.1.0.now;
  ram = a.1.1.1.1.1.0.now;
}

-- a call as the checker reads it: its arguments, its code, what is lent at exit, and all that is known of them: that bytes are
-- bytes, and the contract
pub data HostImageCall : Type 0 where
  of_run : (κs : Lfts 10) (a : ArgsD mb_raw_image_run.signature κs) (x : ResD mb_raw_image_run.signature κs)
      (s : AtExit (ended_of 10 run-kinds.ps run-kinds.r) κs) → LentBytes (lent_run κs a) → run-reads.Post κs a x s → HostImageCall
  of_step : (κs : Lfts 10) (a : ArgsD mb_raw_image_step.signature κs) (x : ResD mb_raw_image_step.signature κs)
      (s : AtExit (ended_of 10 step-kinds.ps step-kinds.r) κs) → LentBytes (lent_step κs a) → step-reads.Post κs a x s → HostImageCall

abbrev pub lent_to : HostImageCall → Lent InPage
lent_to (of_run κs a x s bytes contract) = lent_run κs a
lent_to (of_step κs a x s bytes contract) = lent_step κs a

-- the code, kind, value, literal, position, steps, the record's bytes and RAM
abbrev pub crossed_by : HostImageCall → Crossed
crossed_by (of_run κs a x s bytes contract) =
    answered x s.1.1.1.1.1.1.1.1.1.1.1.0.now s.1.1.1.1.1.1.1.1.1.1.1.1.0.now s.1.1.1.1.1.1.1.1.1.1.1.1.1.0.now
    s.1.1.1.1.1.1.1.1.1.1.1.1.1.1.0.now s.1.1.1.1.1.1.1.1.1.1.1.1.1.1.1.0.now s.1.1.1.1.1.1.1.1.1.0.now s.1.1.1.1.1.0.now
crossed_by (of_step κs a x s bytes contract) =
    answered x s.1.1.1.1.1.1.1.1.1.1.0.now s.1.1.1.1.1.1.1.1.1.1.1.0.now s.1.1.1.1.1.1.1.1.1.1.1.1.0.now
    s.1.1.1.1.1.1.1.1.1.1.1.1.1.0.now s.1.1.1.1.1.1.1.1.1.1.1.1.1.1.0.now s.1.1.1.1.1.1.1.1.1.0.now s.1.1.1.1.1.0.now

-- the host of an image. Bytes that hold no record it refuses by 18, 12, 13, 14, 21, 2, 3 or 20, or by 255 with the position
abbrev pub image_host : Host
image_host = record {
  kind = image_page;
  areas = λ x ram. image_area_rules x.setting x.number ram;
  Call = HostImageCall;
  lent = lent_to;
  crossed = crossed_by;
}
