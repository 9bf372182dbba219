use mathlib.Core.Path.{sym, ap, ◌∙◌}
use Rattle.refusal.specs.Refusals.{decision_of}
use Rattle.image_runs.specs.ImageRuns.{seen_image_setting}
use Rattle.image_runs.proofs.Theorems.{runs_page}
use Rattle.image_runs.proofs.run.Goals as goal

pub run_in-requires : goal.run_in-requires
run_in-requires c =
    let s = c.args in
    (runs_page (seen_image_setting s.setting.now) s.number s.r s.ram.now (sym c.verdict_of.ensures ∙ ap decision_of c.in-Ok.is)).inside
