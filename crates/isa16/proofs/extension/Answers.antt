use mathlib.Core.Path.{refl}
use Prim.Native.Nat.{◌≤◌}
use native.Mathlib.Omega.{arith}
use Rattle.laws.proofs.Runs.{past}
use Rattle.isa.specs.Patterns.{matches}
use Rattle.isa16.proofs.Classes.{by_ten}
use Rattle.isa16.proofs.extension.Goals as goal

pub returns-in-0 : goal.returns-in-0
unfolding matches
returns-in-0 c = rw c.read_operands-f.ensures (by_ten 32 0x2C8 refl c.args.h (omega arith))

pub returns-in-1 : goal.returns-in-1
unfolding matches
returns-in-1 c = rw c.read_operands-f.ensures (by_ten 33 0x2C9 refl c.args.h (omega arith))

pub returns-in-2 : goal.returns-in-2
unfolding matches
returns-in-2 c = rw c.read_operands-f.ensures (by_ten 34 0x2CA refl c.args.h (omega arith))

pub returns-in_default : goal.returns-in_default
unfolding matches
returns-in_default c =
    let last : 3 ≤ c.field-op.result = past 3 c.in_default.in_default-own.rest in
    rw c.read_operands-f.ensures (by_ten 35 0x2CB refl c.args.h (omega arith))
