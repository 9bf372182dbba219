use native.Mathlib.Omega.{arith}
use native.Mathlib.Numerals.{add-one}
use lib.Seq.{take-suc, take_all}
use Rattle.text.proofs.Grows.{◌then◌}
use Rattle.text.proofs.Text.put.Goals as goal

pub loop-b-preserved : goal.loop-b-preserved
loop-b-preserved c =
    let piece = c.args.piece.now in
    let i = c.loop-b.b-index in
    rw (add-one i, take-suc piece i 0 (omega arith)) (c.loop-b.invariant then c.push.ensures)

pub returns : goal.returns
returns c =
    let piece = c.args.piece.now in
    c.put_nothing.ensures then rw (take_all c.loop-b.b-index piece (omega arith)) at c.loop-b.invariant
