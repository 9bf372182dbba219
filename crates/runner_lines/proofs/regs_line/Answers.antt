use Prim.Native.Nat.{◌≤◌}
use lib.ListN.{length}
use lib.Seq.{take_all}
use borrow.Author.Rules.{rules}
use Rattle.text.proofs.Grows.{nothing_more, ◌then◌}
use Rattle.runner_lines.specs.Lines.{words_text, regs_text}
use Rattle.runner_lines.proofs.Registers.{turn}
use Rattle.runner_lines.proofs.regs_line.Goals as goal

pub loop-x-init : goal.loop-x-init
unfolding words_text
loop-x-init c = nothing_more c.put.ensures

pub loop-x-preserved : goal.loop-x-preserved
loop-x-preserved c = turn _ c.loop-x.x-index (search rules) c.loop-x.invariant c.push.ensures c.put_hex.ensures

pub returns : goal.returns
unfolding regs_text
returns c =
    let regs = c.args.regs in
    let h : length regs ≤ c.loop-x.x-index = search rules in
    c.put.ensures then rw (take_all c.loop-x.x-index regs h) at c.loop-x.invariant then c.push-2.ensures
