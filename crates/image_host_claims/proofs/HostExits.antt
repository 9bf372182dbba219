-- What a host decodes of a stop at a service in a page of an image is the exit of that page's service.
use Rattle.series.specs.Demand3.{OwnCall}
use Rattle.image_claims.specs.ImageMachine.{InPage, program_in}
use Rattle.host_series.specs.HostExits.{AtService, Decodes}
use Rattle.host_series.specs.HostSeries.{RecordCall, handed_record, gave_record, host_machine}
use Rattle.host_series.proofs.HostExits as host-series
use Rattle.image_host_claims.specs.HostImageRuns.{crossed_by, image_host}

-- a host's call that stops at a service, as demand 3 has it of each, tells what decodes to the exit of that service
pub image_exit_decoded : (x : InPage) (c : RecordCall image_host)
    → OwnCall (host_machine image_host x) (handed_record image_host c) (gave_record image_host c)
    → AtService (crossed_by c.call).stop → Decodes (program_in x).page (crossed_by c.call).stop
image_exit_decoded = host-series.exit_decoded image_host program_in (λ x r exit here. here)
