use mathlib.Core.Path.{refl}
use Rattle.state.specs.Record.{with_flags}
use Rattle.state.proofs.set_flags.Goals as goal

pub returns : goal.returns
unfolding with_flags
returns c = refl
