use Prim.Native.Nat.{◌+◌, ◌*◌}
use native.Mathlib.Omega.{arith}
use mathlib.Core.Path.{◌∙◌}
use Rattle.memory.proofs.Ram.{done_near}
use Rattle.frame.proofs.Words.{store_next, part_done, word_stored}
use Rattle.frame.proofs.write_words.Goals as goal

pub overflow_add-there : goal.overflow_add-there
overflow_add-there c = omega (arith, c.word_offset.ensures, done_near _ _ _ _ c.requires)

pub loop-i-preserved : goal.loop-i-preserved
loop-i-preserved c =
    let l = c.loop-i in
    let inside = part_done c.args.window c.args.at 32 _ c.requires (c.args.at + 4 * l.i) 4 (omega arith) (omega arith) in
    let stored =
    rw c.word_offset.ensures at c.ram_store.ensures.1
    ∙ word_stored c.args.window (c.args.at + 4 * l.i) _ inside l.ram _ in
    rw stored (store_next l.ram c.args.words c.args.at l.i (omega arith)) ∙ l.invariant
