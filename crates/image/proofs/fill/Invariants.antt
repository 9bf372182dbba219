use mathlib.Core.Path.{◌≡◌}
use lib.ListN.{length, take}
use Rattle.image.specs.Images.{image_of}
use Rattle.image.specs.Index.{counts_in}
use Rattle.image.proofs.fill.Given as goal

abbrev pub invariant-loop-p : goal.invariant-loop-p
invariant-loop-p l = (length l.index ≡ length l.initial.index) × (take l.p l.index ≡ take l.p (counts_in (image_of l.pages l.initial.index l.platform)))
