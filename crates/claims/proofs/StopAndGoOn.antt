-- Stop and go on is met, by the code's calls.
use Rattle.platform.specs.Programs.{Setting}
use Rattle.series.specs.StopAndGoOn.{StopAndGoOn}
use Rattle.series.proofs.StopAndGoOn as series
use Rattle.claims.proofs.Machines.{code_keeps}
use Rattle.claims.specs.Demand3.{machine}

-- of `run` and `step`, with any setting
pub stop_and_go_on : (setting : Setting) → StopAndGoOn (machine setting)
stop_and_go_on setting = series.stop_and_go_on (machine setting) (code_keeps setting)
