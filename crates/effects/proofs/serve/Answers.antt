use mathlib.Core.Path.{◌∙◌}
use Rattle.access.proofs.Theorems.{load_ram}
use Rattle.effects.specs.ServiceEffects.{service_does}
use Rattle.effects.proofs.Laws.{none_did_lem, none_ram, lower_ram}
use Rattle.effects.proofs.serve.Goals as goal

pub returns-in-LoadAtSp : goal.returns-in-LoadAtSp
unfolding service_does
returns-in-LoadAtSp c = rw (c.in-LoadAtSp.is, c.leave_none-in-LoadAtSp.ensures, c.load_at.ensures) (none_did_lem _, load_ram _ _ _ _ ∙ none_ram _ _)

pub returns-in-LowerSp : goal.returns-in-LowerSp
unfolding service_does
returns-in-LowerSp c = rw (c.in-LowerSp.is, c.leave_none-in-LowerSp.ensures, c.lower_sp.ensures c.args.ram.now) (none_did_lem _, lower_ram _ _ _ ∙ none_ram _ _)
