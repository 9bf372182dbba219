-- An image that may be run, by computation.
use Prim.Native.Nat.{ℕ, zero, suc, ◌<◌}
use native.Mathlib.Omega.{arith}
use mathlib.Core.List.{List, []}
use mathlib.Core.Path.{◌≡◌, refl}
use lib.ListN.{length}
use Rattle.page.specs.Page.{halfword_at}
use Rattle.isa.specs.Patterns.{matches}
use Rattle.isa.specs.ListedEncodings.{opens32, decode_by}
use Rattle.isa.specs.Profiles.{rows_in}
use Rattle.service.specs.Services.{service_of, by_low_byte}
use Rattle.prefix.specs.Prefix.{goes, Closed}
use Rattle.prefix.proofs.Theorems.{definition}
use Rattle.flow.specs.Flow.{flow_of}
use Rattle.bundle.specs.Successors.{successors_of}
use Rattle.state.specs.Record.{fresh_record, with_register, with_place}
use Rattle.state.specs.Validation.{external_fits}
use Rattle.writing.specs.Writes.{applied}
use Rattle.effects.specs.ServiceEffects.{leaves_none, service_does}
use Rattle.place.specs.Places.{stands_in, instruction_at, following}
use Rattle.instruction.specs.Instructions.{end_at, exit_of, served_by, served, effect_of, instruction_of}
use Rattle.stop.specs.Stops.{service, direct}
use Rattle.plain.specs.PlainMachine.{plain}
use Rattle.claims.specs.Cuts.{at_return}
use Rattle.image.specs.Images.{image_fits}
use Rattle.image_runs.specs.ImageRuns.{image_run_of}
use Rattle.image_claims.specs.ImageMachine.{program_in, byte_in, AllowedIn, FitStartIn}
use Rattle.image_claims.specs.ImageExamples.{in_second, ImageExamples}
use Rattle.image_claims.proofs.Admitted.{allowed_start_in, byte_counts, fresh_starts_in}

allowed : AllowedIn in_second
unfolding image_fits external_fits
allowed = record {
  profile_known = refl;
  image_allowed = refl;
  number_allowed = omega arith;
  index_right = refl;
  external_allowed = refl;
  window_allowed = refl;
}

-- its first bundle returns
first_returns : successors_of (program_in in_second) 0 ≡ goes []
unfolding successors_of flow_of service_of by_low_byte halfword_at opens32 decode_by rows_in matches
first_returns = refl

closed : Closed (successors_of (program_in in_second)) 1
closed zero l = rw first_returns tt
closed (suc k) l = absurd (omega arith)

-- so its count isn't 0
counts_one : 0 < byte_in in_second
counts_one = omega (arith, byte_counts in_second allowed, (definition (successors_of (program_in in_second)) 64).greatest 1 (omega arith) closed)

starts : (ram : List ℕ) → length ram ≡ 32768 → FitStartIn in_second (record { rec = fresh_record; ram = ram })
unfolding with_place
starts ram n = fresh_starts_in in_second allowed ram n 0 counts_one

runs : (ram : List ℕ) → length ram ≡ 32768
    → image_run_of in_second.setting 1 5 fresh_record ram ≡ record { stop = service (direct 0); steps = 2; rec = at_return; ram = ram }
unfolding halfword_at opens32 decode_by rows_in matches service_of by_low_byte instruction_of instruction_at stands_in following effect_of end_at exit_of served_by served leaves_none service_does applied with_register with_place plain
runs ram n = rw (allowed_start_in in_second allowed (record { rec = fresh_record; ram = ram }) (starts ram n))

pub image_examples : ImageExamples
image_examples = record { allowed = allowed; starts = starts; runs = runs }
