-- Calls in a page of an image keep to their window.
use Rattle.series.specs.Windows.{KeepsToWindow}
use Rattle.series.proofs.Windows.{keeps_to_window}
use Rattle.image_claims.specs.ImageMachine.{InPage, image_page, ImageCall, handed_to, gave_by, image_machine}
use Rattle.image_claims.proofs.Machines.{image_within_window, image_keeps}

pub image_keeps_to_window : (x : InPage) → KeepsToWindow (image_machine x)
image_keeps_to_window x = keeps_to_window image_page image_within_window ImageCall handed_to gave_by x (image_keeps x)
