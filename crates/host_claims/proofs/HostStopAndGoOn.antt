-- Stop and go on is met, by a host's calls.
use Rattle.platform.specs.Programs.{Setting}
use Rattle.host_series.specs.HostStopAndGoOn.{HostStopAndGoOn}
use Rattle.host_series.proofs.HostStopAndGoOn as host-series
use Rattle.host_claims.specs.HostCalls.{lone_host}
use Rattle.host_claims.proofs.HostCalls.{meets_host}

pub host_stop_and_go_on : (setting : Setting) → HostStopAndGoOn lone_host setting
host_stop_and_go_on = host-series.host_stop_and_go_on lone_host meets_host
