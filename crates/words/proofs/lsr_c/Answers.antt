use Prim.Native.Nat.{◌-◌}
use native.Mathlib.Omega.{arith}
use borrow.Author.Tests.{ne_eqb}
use Rattle.words.proofs.Shifts.{gone}
use Rattle.words.proofs.lsr_c.Goals as goal

pub returns-then-n-gt32 : goal.returns-then-n-gt32
returns-then-n-gt32 c =
    let x = c.args.x in
    let n = c.args.n in
    rw (ne_eqb _ _ c.if-n-eq0.false, gone 32 x n (omega arith) (omega arith), gone 32 x (n - 1) (omega arith) (omega arith))
