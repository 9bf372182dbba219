use mathlib.Core.Path.{refl}
use Rattle.state.specs.Record.{with_place}
use Rattle.state.proofs.set_place.Goals as goal

pub returns : goal.returns
unfolding with_place
returns c = refl
