use lib.ListN.{take}
use Rattle.text.specs.Text.{Grows}
use Rattle.runner_lines.specs.Lines.{words_text}
use Rattle.runner_lines.proofs.regs_line.Given as goal

-- The loop has put the words before x.
abbrev pub invariant-loop-x : goal.invariant-loop-x
invariant-loop-x l = Grows l.initial.text (words_text (take l.x-index l.x-items)) l.text
