use Prim.Native.Nat.{suc, ◌+◌}
use mathlib.Core.Path.{◌≡◌, ◌∙◌}
use native.Mathlib.Omega.{arith}
use lib.ListN.{get_or, length-set}
use lib.Seq.{paste-suc}
use Rattle.image.proofs.put_page.Goals as goal

pub loop-i-preserved : goal.loop-i-preserved
loop-i-preserved c =
    let s = c.args in
    let i = c.loop-i.i in
    let inv = c.loop-i.invariant in
    let next : i + 1 ≡ suc i = omega arith in (
      omega arith,
      length-set c.loop-i.image (s.at + i) (get_or s.page.now i 0) ∙ inv.1,
      rw (inv.2, next) (paste-suc s.image.now s.at s.page.now i 0 (omega arith) (omega arith)),
    )
