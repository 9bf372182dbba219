-- A host's calls in a page of an image keep to their window.
use Rattle.image_claims.specs.ImageMachine.{InPage}
use Rattle.host_series.specs.HostWindows.{HostWindows}
use Rattle.host_series.proofs.HostWindows as host-series
use Rattle.image_host_claims.specs.HostImageRuns.{image_host}
use Rattle.image_host_claims.proofs.HostCalls.{meets_image_host}

pub image_host_windows : (x : InPage) → HostWindows image_host x
image_host_windows = host-series.host_windows image_host meets_image_host
