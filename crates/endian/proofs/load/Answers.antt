use Prim.Native.Nat.{◌+◌, ◌-◌, ◌^◌, ◌<◌}
use native.Mathlib.Omega.{arith}
use Rattle.endian.proofs.Theorems.{load_short, width_le}
use Rattle.endian.proofs.load.Goals as goal

-- what was read so far leaves room for a byte more
short : (c : goal.After-byte-b) → c.loop-i.x < 2 ^ 24
short c =
    rw c.loop-i.invariant
    (load_short (c.width-i.result - c.loop-i.i) c.args.bytes.now (c.args.at + c.loop-i.i) (λ k. (c.type_inv.bytes k).fits) (omega (arith, width_le c.args.size, c.width-i.ensures)))

pub overflow_mul-x : goal.overflow_mul-x
overflow_mul-x c = omega (arith, short c)

pub overflow_add-x : goal.overflow_add-x
overflow_add-x c = omega (arith, short c)
