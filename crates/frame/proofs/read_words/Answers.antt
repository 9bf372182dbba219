use Prim.Native.Nat.{◌+◌, ◌*◌}
use native.Mathlib.Omega.{arith}
use mathlib.Core.Path.{◌∙◌}
use lib.ListN.{length-set}
use Rattle.memory.proofs.Ram.{done_near}
use Rattle.frame.proofs.Words.{load_one, part_done}
use Rattle.frame.proofs.read_words.Goals as goal

pub overflow_add-at : goal.overflow_add-at
overflow_add-at c = omega (arith, c.word_offset.ensures, done_near _ _ _ _ c.requires)

pub word_at-requires : goal.word_at-requires
word_at-requires c =
    rw c.word_offset.ensures
    (part_done c.args.window c.args.at 32 _ c.requires (c.args.at + 4 * c.loop-i.i) 4 (omega arith) (omega arith))

pub loop-i-preserved : goal.loop-i-preserved
loop-i-preserved c =
    let l = c.loop-i in (
      length-set l.words l.i _ ∙ l.invariant.0,
      load_one c.args.ram.now l.words c.args.at l.i _ (omega arith) l.invariant.1 (rw c.word_offset.ensures at c.word_at.ensures),
    )
