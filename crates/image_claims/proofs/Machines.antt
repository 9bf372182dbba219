-- The machine of a page of an image leaves what isn't refused and keeps to its window, as a lone page's does; and the code's calls are
-- calls of it.
use Prim.Native.Nat.{ℕ}
use mathlib.Core.List.{List}
use mathlib.Core.Path.{◌≡◌}
use lib.ListN.{length}
use Rattle.state.specs.declared.Record.{Record}
use Rattle.refusal.specs.Refusals.{accepted}
use Rattle.series.specs.Machine.{called_by}
use Rattle.series.proofs.Keeps.{keeps_too, KeepsAdmitted, KeepsAll, keeps_admitted}
use Rattle.series.proofs.Windows.{WithinWindow}
use Rattle.instruction.specs.Fitness.{ServiceAt, Known}
use Rattle.instruction.specs.Instructions.{instruction_of}
use Rattle.admission.specs.RunRefusals.{run_decision}
use Rattle.image_runs.specs.ImageRuns.{image_decision}
use Rattle.claims.proofs.Machines.{lone_page_keeps}
use Rattle.claims.proofs.Windows.{within_window}
use Rattle.image_claims.specs.ImageMachine.{InPage, program_in, alone, image_page, ImageCall, of_run, of_step, handed_to, gave_by, image_machine}
use Rattle.image_claims.proofs.Admitted.{byte_is_count, to_alone, from_alone}

pub image_page_keeps : KeepsAll image_page
image_page_keeps = record {
  keeps = λ x r ram a.
      let here = to_alone x r ram a in
      keeps_too (λ s after. run_decision (alone x) s after ≡ accepted) (λ s after. image_decision x.setting x.number s after ≡ accepted)
      (ServiceAt (program_in x) r) Known (from_alone x here.0) (instruction_of (alone x) r ram) (lone_page_keeps.keeps (alone x) r ram here.1);
  starts = λ x r ram a.
      let here = to_alone x r ram a in
      rw (byte_is_count x here.0) (lone_page_keeps.starts (alone x) r ram here.1);
}

by_length : (x : InPage) (r : Record) (a b : List ℕ) → length a ≡ length b
    → image_decision x.setting x.number r a ≡ image_decision x.setting x.number r b
unfolding image_decision
by_length x r a b e = rw e

pub image_within_window : WithinWindow image_page
image_within_window = record {
  reads_inside = λ x. within_window.reads_inside (alone x);
  writes_inside = λ x. within_window.writes_inside (alone x);
  refuses_by_length = by_length;
}

-- the contracts of `run` and `step` are what the plain machine, or the refusal, gives
meets : (c : ImageCall) → gave_by c ≡ called_by image_page (handed_to c)
meets (of_run κs a x s contract) = contract
meets (of_step κs a x s contract) = contract

pub image_keeps : (x : InPage) → KeepsAdmitted (image_machine x)
image_keeps = keeps_admitted image_page image_page_keeps ImageCall handed_to gave_by meets
