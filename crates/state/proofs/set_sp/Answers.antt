use mathlib.Core.Path.{refl}
use Rattle.state.specs.Record.{with_sp}
use Rattle.state.proofs.set_sp.Goals as goal

pub returns : goal.returns
unfolding with_sp
returns c = refl
