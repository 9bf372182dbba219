use mathlib.Core.Path.{refl, sym, ◌∙◌}
use native.Mathlib.Omega.{arith}
use Rattle.image.specs.Images.{seen_image}
use Rattle.image.proofs.Laws.{true_equal, differ, same_turn, other_byte, all_same, other_length}
use Rattle.image.proofs.holds_counts.Goals as goal

pub returns-then-image : goal.returns-then-image
returns-then-image c =
    let s = c.args.image.now in
    sym (differ _ _ (other_length (seen_image s) s.index.now c.if-image.true))

pub loop-p-init : goal.loop-p-init
loop-p-init c = refl

pub returns-then-image-p : goal.returns-then-image-p
returns-then-image-p c =
    let s = c.args.image.now in
    sym (differ _ _ (other_byte (seen_image s) s.index.now c.if-image.false c.loop-p.p (omega arith) (λ e. c.if-image-p.true (e ∙ sym c.count_at.ensures))))

pub loop-p-preserved : goal.loop-p-preserved
loop-p-preserved c =
    let s = c.args.image.now in
    same_turn (seen_image s) s.index.now c.if-image.false c.loop-p.p (omega arith) c.loop-p.invariant (c.if-image-p.false ∙ c.count_at.ensures)

pub returns : goal.returns
returns c =
    let s = c.args.image.now in
    sym (rw (← all_same (seen_image s) s.index.now c.if-image.false c.loop-p.p (omega arith) c.loop-p.invariant) (true_equal s.index.now))
