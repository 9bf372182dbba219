use mathlib.Core.Path.{ap}
use native.Mathlib.Omega.{arith}
use Rattle.prefix.specs.LargestSuccessor.{largest}
use Rattle.prefix.proofs.Successors.{raised_by}
use Rattle.prefix.proofs.with_successor.Goals as goal

pub returns-in-Largest : goal.returns-in-Largest
returns-in-Largest c = rw c.in-Largest.is (raised_by _ _ _ (ap largest (omega arith)))
