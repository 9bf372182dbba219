-- Demand 3 is met in a page of an image, by every series of the code's calls.
use mathlib.Core.List.{List}
use Rattle.series.specs.HandedOn.{InSeries}
use Rattle.series.specs.Series.{State, Series}
use Rattle.series.specs.Demand3.{Demand3}
use Rattle.series.proofs.Theorems as series
use Rattle.image_claims.specs.ImageMachine.{InPage, AllowedIn, FitStartIn, ImageCall, image_machine}
use Rattle.image_claims.proofs.Admitted.{allowed_start_in}
use Rattle.image_claims.proofs.Machines.{image_keeps}

pub image_demand3 : (x : InPage) → AllowedIn x → (start : State) → FitStartIn x start
    → (calls : List (InSeries ImageCall)) → Series (image_machine x) calls start → Demand3 (image_machine x) calls start
image_demand3 x allowed start fit calls h = series.demand3 (image_machine x) (image_keeps x) calls start (allowed_start_in x allowed start fit) h
