-- Stop and go on is met in a page of an image, by the code's calls.
use Rattle.series.specs.StopAndGoOn.{StopAndGoOn}
use Rattle.series.proofs.StopAndGoOn as series
use Rattle.image_claims.specs.ImageMachine.{InPage, image_machine}
use Rattle.image_claims.proofs.Machines.{image_keeps}

pub image_stop_and_go_on : (x : InPage) → StopAndGoOn (image_machine x)
image_stop_and_go_on x = series.stop_and_go_on (image_machine x) (image_keeps x)
