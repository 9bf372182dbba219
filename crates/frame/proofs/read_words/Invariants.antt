use mathlib.Core.Path.{◌≡◌}
use lib.ListN.{length, take}
use Rattle.frame.specs.Frames.{load_words}
use Rattle.frame.proofs.read_words.Given as goal

abbrev pub invariant-loop-i : goal.invariant-loop-i
invariant-loop-i l = (length l.words ≡ 8) × (take l.i l.words ≡ load_words l.i l.ram l.at)
