-- Stop and go on is met in a page of an image, by a host's calls.
use Rattle.image_claims.specs.ImageMachine.{InPage}
use Rattle.host_series.specs.HostStopAndGoOn.{HostStopAndGoOn}
use Rattle.host_series.proofs.HostStopAndGoOn as host-series
use Rattle.image_host_claims.specs.HostImageRuns.{image_host}
use Rattle.image_host_claims.proofs.HostCalls.{meets_image_host}

pub image_host_stop_and_go_on : (x : InPage) → HostStopAndGoOn image_host x
image_host_stop_and_go_on = host-series.host_stop_and_go_on image_host meets_image_host
