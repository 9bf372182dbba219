-- A host's call in page p of an image gives back what one on that page alone gives back, where neither is refused.
use mathlib.Core.Path.{◌≡◌, sym, ap, ◌∙◌}
use Rattle.image_claims.specs.AsAlone.{HandedAlike, NeitherRefused}
use Rattle.image_claims.proofs.AsAlone.{called_alike}
use Rattle.hosting.specs.Crossed.{crossing}
use Rattle.host_series.specs.HostSeries.{RecordCall, handed_record}
use Rattle.host_series.proofs.HostCalls.{crossed_ran}
use Rattle.host_claims.specs.HostCalls.{lone_host}
use Rattle.host_claims.specs.HostCalls as lone
use Rattle.host_claims.proofs.HostCalls.{meets_host}
use Rattle.image_host_claims.specs.HostImageRuns.{crossed_by, image_host}
use Rattle.image_host_claims.proofs.HostCalls.{meets_image_host}

-- numbers, bytes of the record and RAM
pub image_host_as_alone : (c : RecordCall image_host) (d : RecordCall lone_host)
    → HandedAlike (handed_record image_host c) (handed_record lone_host d) → NeitherRefused (handed_record image_host c) (handed_record lone_host d)
    → crossed_by c.call ≡ lone.crossed_by d.call
image_host_as_alone c d alike n =
    crossed_ran image_host meets_image_host c
    ∙ ap crossing (called_alike (handed_record image_host c) (handed_record lone_host d) alike n)
    ∙ sym (crossed_ran lone_host meets_host d)
