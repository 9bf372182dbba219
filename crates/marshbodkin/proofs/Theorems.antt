-- What the host can rely on beyond single calls.
use Prim.Native.Nat.{ℕ, ◌<◌}
use mathlib.Core.Bool.{true}
use mathlib.Core.List.{List}
use mathlib.Core.Path.{◌≡◌}
use lib.ListN.{get_or}
use Rattle.platform.specs.Programs.{Setting}
use Rattle.refusal.specs.Refusals.{refused}
use Rattle.stop.specs.Stops as stops
use Rattle.admission.specs.RunRefusals.{run_decision}
use Rattle.layout.specs.StoredForm.{record_in, holds_record}
use Rattle.layout.proofs.Theorems.{held, bytes_kept}
use Rattle.crossing.specs.Numbers.{stop_numbers}
use Rattle.hosting.specs.HostRuns.{host_run}

-- a run that is refused leaves every byte of the record and of RAM
pub refused_keeps : (setting : Setting) (bytes ram : List ℕ) (total n : ℕ) (values : List ℕ) → holds_record bytes ≡ true → ((k : ℕ) → get_or bytes k 0 < 256)
    → run_decision setting (record_in bytes) ram ≡ refused n values
    → host_run setting total bytes ram ≡ record { stop = stop_numbers (stops.refused n values); steps = 0; bytes = bytes; ram = ram }
refused_keeps setting bytes ram total n values holds h e =
    let p = held bytes holds in
    rw (holds, e, bytes_kept bytes p.1 p.0 h)
