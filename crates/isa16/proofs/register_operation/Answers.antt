use mathlib.Core.Path.{refl}
use Prim.Native.Nat.{◌≤◌}
use native.Mathlib.Omega.{arith}
use Rattle.laws.proofs.Runs.{past}
use Rattle.isa.specs.Patterns.{matches}
use Rattle.isa16.proofs.Classes.{by_ten}
use Rattle.isa16.proofs.register_operation.Goals as goal

pub returns-in-0 : goal.returns-in-0
unfolding matches
returns-in-0 c = rw c.read_operands-f.ensures (by_ten 11 256 refl c.args.h (omega arith))

pub returns-in-1 : goal.returns-in-1
unfolding matches
returns-in-1 c = rw c.read_operands-f.ensures (by_ten 12 257 refl c.args.h (omega arith))

pub returns-in-2 : goal.returns-in-2
unfolding matches
returns-in-2 c = rw c.read_operands-f.ensures (by_ten 13 258 refl c.args.h (omega arith))

pub returns-in-3 : goal.returns-in-3
unfolding matches
returns-in-3 c = rw c.read_operands-f.ensures (by_ten 14 259 refl c.args.h (omega arith))

pub returns-in-4 : goal.returns-in-4
unfolding matches
returns-in-4 c = rw c.read_operands-f.ensures (by_ten 15 260 refl c.args.h (omega arith))

pub returns-in-5 : goal.returns-in-5
unfolding matches
returns-in-5 c = rw c.read_operands-f.ensures (by_ten 16 261 refl c.args.h (omega arith))

pub returns-in-6 : goal.returns-in-6
unfolding matches
returns-in-6 c = rw c.read_operands-f.ensures (by_ten 17 262 refl c.args.h (omega arith))

pub returns-in-7 : goal.returns-in-7
unfolding matches
returns-in-7 c = rw c.read_operands-f.ensures (by_ten 18 263 refl c.args.h (omega arith))

pub returns-in-8 : goal.returns-in-8
unfolding matches
returns-in-8 c = rw c.read_operands-f.ensures (by_ten 19 264 refl c.args.h (omega arith))

pub returns-in-9 : goal.returns-in-9
unfolding matches
returns-in-9 c = rw c.read_operands-f.ensures (by_ten 20 265 refl c.args.h (omega arith))

pub returns-in-10 : goal.returns-in-10
unfolding matches
returns-in-10 c = rw c.read_operands-f.ensures (by_ten 21 266 refl c.args.h (omega arith))

pub returns-in-11 : goal.returns-in-11
unfolding matches
returns-in-11 c = rw c.read_operands-f.ensures (by_ten 22 267 refl c.args.h (omega arith))

pub returns-in-12 : goal.returns-in-12
unfolding matches
returns-in-12 c = rw c.read_operands-f.ensures (by_ten 23 268 refl c.args.h (omega arith))

pub returns-in-13 : goal.returns-in-13
unfolding matches
returns-in-13 c = rw c.read_operands-f.ensures (by_ten 24 269 refl c.args.h (omega arith))

pub returns-in-14 : goal.returns-in-14
unfolding matches
returns-in-14 c = rw c.read_operands-f.ensures (by_ten 25 270 refl c.args.h (omega arith))

pub returns-in_default : goal.returns-in_default
unfolding matches
returns-in_default c =
    let last : 15 ≤ c.field-op.result = past 15 c.in_default.in_default-own.rest in
    rw c.read_operands-f.ensures (by_ten 26 271 refl c.args.h (omega arith))
