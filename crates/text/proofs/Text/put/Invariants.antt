use Rattle.std.proofs.Common.{take}
use Rattle.text.specs.Text.{Grows}
use Rattle.text.proofs.Text.put.Given as goal

-- The loop has put the bytes before b.
abbrev pub invariant-loop-b : goal.invariant-loop-b
invariant-loop-b l = Grows l.initial.self (take l.b-index l.piece) l.self
