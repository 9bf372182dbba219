use mathlib.Core.Path.{refl, ◌∙◌}
use native.Mathlib.Omega.{arith}
use lib.ListN.{length-set}
use Rattle.image.specs.Images.{image_of}
use Rattle.image.proofs.Laws.{fill_turn, all_same}
use Rattle.image.proofs.fill.Goals as goal

pub loop-p-init : goal.loop-p-init
loop-p-init c = (refl, refl)

pub loop-p-preserved : goal.loop-p-preserved
loop-p-preserved c =
    let s = c.args in
    let index = c.loop-p.index in
    let p = c.loop-p.p in
    let inv = c.loop-p.invariant in (
      length-set index p c.count_at.result ∙ inv.0,
      fill_turn (image_of s.pages.now s.index.now s.platform) index (omega (arith, inv.0)) p c.count_at.result (omega arith) inv.1 c.count_at.ensures,
    )

pub returns : goal.returns
returns c =
    let s = c.args in
    all_same (image_of s.pages.now s.index.now s.platform) c.loop-p.index (omega (arith, c.loop-p.invariant.0)) c.loop-p.p (omega arith) c.loop-p.invariant.1
