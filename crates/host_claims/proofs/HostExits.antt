-- What a host decodes of a stop at a service is the exit of the page's service.
use Rattle.platform.specs.Programs.{Setting}
use Rattle.series.specs.Demand3.{OwnCall}
use Rattle.host_series.specs.HostExits.{AtService, Decodes}
use Rattle.host_series.specs.HostSeries.{RecordCall, handed_record, gave_record, host_machine}
use Rattle.host_series.proofs.HostExits as host-series
use Rattle.host_claims.specs.HostCalls.{crossed_by, lone_host}

-- a host's call that stops at a service, as demand 3 has it of each, tells what decodes to the exit of that service
pub exit_decoded : (setting : Setting) (c : RecordCall lone_host)
    → OwnCall (host_machine lone_host setting) (handed_record lone_host c) (gave_record lone_host c)
    → AtService (crossed_by c.call).stop → Decodes setting.program.page (crossed_by c.call).stop
exit_decoded = host-series.exit_decoded lone_host (λ s. s.program) (λ s r exit here. here)
