use native.Mathlib.Omega.{arith}
use mathlib.Core.Path.{◌∙◌}
use Rattle.endian.proofs.Theorems.{store_step}
use Rattle.endian.proofs.store.Goals as goal

pub loop-i-preserved : goal.loop-i-preserved
loop-i-preserved c =
    rw c.set_byte.ensures (store_step c.width-i-end.result c.loop-i.i c.args.at c.loop-i.rest _ (omega arith)) ∙ c.loop-i.invariant
