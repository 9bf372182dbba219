-- Demand 3 is met, by every series of the code's calls.
use mathlib.Core.List.{List}
use Rattle.platform.specs.Programs.{Setting}
use Rattle.series.specs.HandedOn.{InSeries}
use Rattle.series.specs.Series.{State, Series}
use Rattle.series.specs.Demand3.{Demand3}
use Rattle.series.proofs.Theorems as series
use Rattle.claims.proofs.Admitted.{allowed_start}
use Rattle.claims.proofs.Machines.{code_keeps}
use Rattle.claims.specs.Demand3.{Allowed, FitStart, CodeCall, machine}

-- over any setting, and so over any set of listed encodings
pub demand3 : (setting : Setting) → Allowed setting → (start : State) → FitStart setting start
    → (calls : List (InSeries CodeCall)) → Series (machine setting) calls start → Demand3 (machine setting) calls start
demand3 setting allowed start fit calls h =
    series.demand3 (machine setting) (code_keeps setting) calls start (allowed_start setting allowed start fit) h
