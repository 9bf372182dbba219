use mathlib.Core.Path.{◌≡◌}
use lib.ListN.{take}
use Rattle.image.specs.Images.{seen_image}
use Rattle.image.specs.Index.{counts_in}
use Rattle.image.proofs.holds_counts.Given as goal

abbrev pub invariant-loop-p : goal.invariant-loop-p
invariant-loop-p l = take l.p l.image.index.now ≡ take l.p (counts_in (seen_image l.image))
