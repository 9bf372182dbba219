use native.Mathlib.Omega.{arith}
use mathlib.Core.Path.{sym, ◌∙◌}
use Rattle.address.proofs.Theorems.{in_image_lem}
use Rattle.address.proofs.is_fit.Goals as goal

pub slice_bounds-program-end : goal.slice_bounds-program-end
slice_bounds-program-end c = omega (arith, (in_image_lem _ _ (sym c.in_image.ensures ∙ c.if-not-in_image.false)).0)
