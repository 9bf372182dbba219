use mathlib.Core.Path.{refl}
use Rattle.state.specs.Record.{with_base}
use Rattle.state.proofs.set_base.Goals as goal

pub returns : goal.returns
unfolding with_base
returns c = refl
