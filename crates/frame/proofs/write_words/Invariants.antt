use Prim.Native.Nat.{◌+◌, ◌*◌}
use mathlib.Core.Path.{◌≡◌}
use lib.ListN.{drop}
use Rattle.frame.specs.Frames.{store_words}
use Rattle.frame.proofs.write_words.Given as goal

abbrev pub invariant-loop-i : goal.invariant-loop-i
invariant-loop-i l = store_words l.ram (l.at + 4 * l.i) (drop l.i l.words) ≡ store_words l.initial.ram l.at l.words
