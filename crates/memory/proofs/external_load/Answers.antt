use native.Mathlib.Omega.{arith}
use Prim.Native.Nat.{◌≤◌}
use Rattle.endian.proofs.Theorems.{width_le}
use Rattle.memory.specs.Memory.{external_loaded, external_page}
use Rattle.window.proofs.Laws.{past_last, up_to_last}
use Rattle.memory.proofs.Laws.{clipped}
use Rattle.memory.proofs.external_load.Goals as goal

pub returns-then-at-width : goal.returns-then-at-width
unfolding external_loaded external_page
returns-then-at-width c =
    let w = c.width in
    let few : w.result ≤ 256 = omega (arith, width_le c.args.size, w.ensures) in
    rw (
      c.load.ensures,
      ← w.ensures,
      up_to_last 256 _ w.result few c.if-at-width.true,
      ← clipped 256 _ _ _ _ c.min-from.ensures c.min-end.ensures,
    )

pub returns-else-at-width : goal.returns-else-at-width
unfolding external_loaded
returns-else-at-width c = rw (← c.width.ensures, past_last 256 _ _ c.if-at-width.false)
