use native.Mathlib.Omega.{arith}
use borrow.Author.Tests.{ne_eqb}
use Rattle.words.proofs.Shifts.{past_32}
use Rattle.words.proofs.lsl_c.Goals as goal

pub returns-then-n-gt32 : goal.returns-then-n-gt32
returns-then-n-gt32 c =
    let x = c.args.x in
    let n = c.args.n in
    let p = past_32 x n (omega arith) in
    rw (ne_eqb _ _ c.if-n-eq0.false, p.0, p.1)
