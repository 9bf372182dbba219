-- A host's calls keep to their window.
use Rattle.platform.specs.Programs.{Setting}
use Rattle.host_series.specs.HostWindows.{HostWindows}
use Rattle.host_series.proofs.HostWindows as host-series
use Rattle.host_claims.specs.HostCalls.{lone_host}
use Rattle.host_claims.proofs.HostCalls.{meets_host}

pub host_windows : (setting : Setting) → HostWindows lone_host setting
host_windows = host-series.host_windows lone_host meets_host
