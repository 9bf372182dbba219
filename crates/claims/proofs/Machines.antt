-- The build paper's machine leaves what isn't refused; and the code's calls are calls of it.
use mathlib.Core.Path.{◌≡◌}
use Rattle.refusal.specs.Refusals.{accepted}
use Rattle.platform.specs.Programs.{Setting}
use Rattle.series.specs.Machine.{called_by}
use Rattle.series.proofs.Keeps.{keeps_too, KeepsAdmitted, KeepsAll, keeps_admitted}
use Rattle.instruction.specs.Fitness.{Fit, ServiceAt, Known}
use Rattle.instruction.specs.Instructions.{instruction_of}
use Rattle.instruction.proofs.Kept.{keeps, starts}
use Rattle.admission.specs.RunRefusals.{run_decision}
use Rattle.claims.proofs.Admitted.{allowed_admitted, admitted_allowed}
use Rattle.claims.specs.Demand3.{lone_page, CodeCall, of_run, of_step, handed_to, gave_by, machine}

pub lone_page_keeps : KeepsAll lone_page
lone_page_keeps = record {
  keeps = λ setting r ram a.
      let here = admitted_allowed setting r ram a in
      keeps_too (Fit setting) (λ s after. run_decision setting s after ≡ accepted) (ServiceAt setting.program r) Known
      (λ s after f. allowed_admitted setting s after (record {
        program_allowed = here.program_allowed;
        data_allowed = here.data_allowed;
        window_allowed = here.window_allowed;
        fits = f;
      }))
      (instruction_of setting r ram) (keeps setting here.program_allowed r ram here.fits);
  starts = λ setting r ram a.
      let here = admitted_allowed setting r ram a in
      starts setting here.program_allowed r ram here.fits;
}

-- the contracts of `run` and `step` are what the plain machine, or the refusal, gives
meets : (c : CodeCall) → gave_by c ≡ called_by lone_page (handed_to c)
meets (of_run κs a x s contract) = contract
meets (of_step κs a x s contract) = contract

pub code_keeps : (setting : Setting) → KeepsAdmitted (machine setting)
code_keeps = keeps_admitted lone_page lone_page_keeps CodeCall handed_to gave_by meets
