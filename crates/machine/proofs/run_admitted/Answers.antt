use mathlib.Core.Path.{sym, ◌∙◌}
use Rattle.page.proofs.Theorems.{fitting}
use Rattle.machine.proofs.run_admitted.Goals as goal

pub run_on-requires : goal.run_on-requires
run_on-requires c = (fitting c.args.setting.now.program.page.now (sym c.fits.ensures ∙ c.if-not-fits.false)).0
