-- A host's calls in a page of an image, each handed the bytes that the one before left, are a series of demand 3.
use mathlib.Core.Bool.{true}
use mathlib.Core.List.{List}
use mathlib.Core.Path.{◌≡◌}
use Rattle.layout.specs.StoredForm.{holds_record}
use Rattle.series.specs.HandedOn.{InSeries}
use Rattle.image_claims.specs.ImageMachine.{InPage, AllowedIn, FitStartIn}
use Rattle.image_claims.proofs.Admitted.{allowed_start_in}
use Rattle.host_series.specs.HostSeries.{ByteState, state_in, HostSeries, HostDemand3}
use Rattle.host_series.proofs.HostDemand3 as host-series
use Rattle.image_host_claims.specs.HostImageRuns.{HostImageCall, image_host}
use Rattle.image_host_claims.proofs.HostCalls.{meets_image_host}

-- from bytes that hold a record which a series may start from
pub image_host_demand3 : (x : InPage) → AllowedIn x → (start : ByteState) → holds_record start.rec ≡ true → FitStartIn x (state_in start)
    → (calls : List (InSeries HostImageCall)) → HostSeries image_host x calls start → HostDemand3 image_host x calls start
image_host_demand3 x allowed start holds fit =
    host-series.host_demand3 image_host meets_image_host x start holds (allowed_start_in x allowed (state_in start) fit)
