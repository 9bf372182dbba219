-- A host's calls, each handed the bytes that the one before left, are a series of demand 3.
use mathlib.Core.Bool.{true}
use mathlib.Core.List.{List}
use mathlib.Core.Path.{◌≡◌}
use Rattle.layout.specs.StoredForm.{holds_record}
use Rattle.series.specs.HandedOn.{InSeries}
use Rattle.platform.specs.Programs.{Setting}
use Rattle.claims.specs.Demand3.{Allowed, FitStart}
use Rattle.claims.proofs.Admitted.{allowed_start}
use Rattle.host_series.specs.HostSeries.{ByteState, state_in, HostSeries, HostDemand3}
use Rattle.host_series.proofs.HostDemand3 as host-series
use Rattle.host_claims.specs.HostCalls.{HostCall, lone_host}
use Rattle.host_claims.proofs.HostCalls.{meets_host}

-- from bytes that hold a record which a series may start from
pub host_demand3 : (setting : Setting) → Allowed setting → (start : ByteState) → holds_record start.rec ≡ true
    → FitStart setting (state_in start)
    → (calls : List (InSeries HostCall)) → HostSeries lone_host setting calls start → HostDemand3 lone_host setting calls start
host_demand3 setting allowed start holds fit =
    host-series.host_demand3 lone_host meets_host setting start holds (allowed_start setting allowed (state_in start) fit)
