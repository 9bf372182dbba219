use native.Mathlib.Omega.{arith}
use mathlib.Core.Path.{sym, ◌∙◌}
use Rattle.address.proofs.Theorems.{in_image_lem, fit_in_lem, fit_address_lem}
use Rattle.transfer.proofs.Laws.{place_moves}
use Rattle.transfer.proofs.leave.Goals as goal

pub linked-requires : goal.linked-requires
linked-requires c =
    let fit = place_moves _ _ (sym c.place_met.ensures ∙ c.in_ok-place_met.was) in
    omega (arith, (in_image_lem _ _ (fit_in_lem _ _ _ (fit_address_lem _ _ fit)).0).1)
