use mathlib.Core.Path.{ap, ◌∙◌}
use native.Mathlib.Omega.{arith}
use Rattle.platform.specs.Programs.{Program, setting_of}
use Rattle.machine.specs.Runs.{admitted_run}
use Rattle.image_runs.proofs.Theorems.{page_fits_lem}
use Rattle.image_runs.proofs.run_in.Goals as goal

pub returns : goal.returns
returns c =
    let s = c.args in
    let setting = s.setting.now in
    c.run_admitted.ensures
    ∙ ap (λ (p : Program). admitted_run (setting_of p setting.external.now setting.window) s.budget s.r s.ram.now) c.program_at.ensures
    ∙ rw (page_fits_lem setting.image.pages.now s.number (omega arith))
