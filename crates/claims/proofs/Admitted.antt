-- What may be run: from every bundle below the count, with the fresh record; a page of count 0 is refused 5. So fitness is not
-- empty, and demand 3 is about something.
use Prim.Native.Nat.{ℕ, ◌*◌, ◌<◌}
use native.Mathlib.Omega.{arith}
use mathlib.Core.Bool.{true}
use mathlib.Core.List.{List, []}
use mathlib.Core.Path.{◌≡◌, refl}
use lib.ListN.{length}
use borrow.Author.Tests.{le-ltb, eq-eqb}
use Rattle.refusal.specs.Refusals.{accepted, refused, decision}
use Rattle.window.specs.Windows.{window_fits}
use Rattle.platform.specs.Programs.{program_rules, Setting}
use Rattle.platform.proofs.Theorems.{program_accepts}
use Rattle.count.specs.Count.{count_of}
use Rattle.state.specs.FitRecord.{fit_record}
use Rattle.state.specs.Validation.{external_fits}
use Rattle.state.specs.declared.Record.{Record}
use Rattle.state.specs.Record.{fresh_record, with_place}
use Rattle.place.specs.Places.{fit_below}
use Rattle.series.specs.Series.{State}
use Rattle.instruction.specs.Fitness.{Fit}
use Rattle.instruction.proofs.FitPlaces.{bundle_fits}
use Rattle.admission.specs.RunRefusals.{run_decision}
use Rattle.admission.proofs.Theorems.{accepts, accepted_all}
use Rattle.claims.specs.Demand3.{Allowed, FitStart}

-- ---- what is not refused

pub record AllowedAndFit (setting : Setting) (r : Record) (ram : List ℕ) : Type 0 where
  pub program_allowed : decision (program_rules setting.program) ≡ accepted
  pub data_allowed : external_fits (length setting.external) ≡ true
  pub window_allowed : window_fits setting.window ≡ true
  pub fits : Fit setting r ram

-- what is allowed and fit is not refused, and what is not refused is allowed and fit
pub allowed_admitted : (setting : Setting) (r : Record) (ram : List ℕ) → AllowedAndFit setting r ram → run_decision setting r ram ≡ accepted
allowed_admitted setting r ram h =
    accepts setting r ram h.program_allowed h.fits.ram_fits h.data_allowed h.window_allowed h.fits.record_fits h.fits.place_fits

pub admitted_allowed : (setting : Setting) (r : Record) (ram : List ℕ) → run_decision setting r ram ≡ accepted → AllowedAndFit setting r ram
admitted_allowed setting r ram a =
    let all = accepted_all setting r ram a in
    record {
      program_allowed = all.0;
      data_allowed = all.2;
      window_allowed = all.3;
      fits = record { record_fits = all.4; place_fits = all.5; ram_fits = all.1 };
    }

-- ---- what may be run

-- its program is not refused
pub allowed_program : (setting : Setting) → Allowed setting → decision (program_rules setting.program) ≡ accepted
allowed_program setting allowed = program_accepts setting.program allowed.profile_known allowed.page_allowed

-- where a series may start, a call is not refused
pub allowed_start : (setting : Setting) → Allowed setting → (start : State) → FitStart setting start
    → run_decision setting start.rec start.ram ≡ accepted
allowed_start setting allowed start fit =
    allowed_admitted setting start.rec start.ram
    (record {
      program_allowed = allowed_program setting allowed;
      data_allowed = allowed.external_allowed;
      window_allowed = allowed.window_allowed;
      fits = fit;
    })

fresh_fits : (k external : ℕ) → fit_record (with_place fresh_record k) external ≡ true
unfolding fit_record with_place
fresh_fits k external = refl

-- a series may start from the fresh record at any bundle below the count, with any RAM of its size
pub fresh_starts : (setting : Setting) → Allowed setting → (ram : List ℕ) → length ram ≡ 32768
    → (k : ℕ) → k < count_of setting.program → FitStart setting (record { rec = with_place fresh_record (2 * k); ram = ram })
unfolding with_place
fresh_starts setting allowed ram n k l = record {
  record_fits = fresh_fits (2 * k) (length setting.external);
  place_fits = bundle_fits setting.program (allowed_program setting allowed) k l;
  ram_fits = n;
}

-- and so a call from there is not refused
pub admitted : (setting : Setting) → Allowed setting → (ram : List ℕ) → length ram ≡ 32768
    → (k : ℕ) → k < count_of setting.program → run_decision setting (with_place fresh_record (2 * k)) ram ≡ accepted
admitted setting allowed ram n k l =
    allowed_start setting allowed (record { rec = with_place fresh_record (2 * k); ram = ram }) (fresh_starts setting allowed ram n k l)

pub none_admitted : (setting : Setting) → Allowed setting → (ram : List ℕ) → length ram ≡ 32768
    → count_of setting.program ≡ 0 → run_decision setting fresh_record ram ≡ refused 5 []
unfolding run_decision fit_record fit_below
none_admitted setting allowed ram n z =
    rw (allowed.profile_known, allowed.page_allowed, eq-eqb _ _ n, allowed.external_allowed, allowed.window_allowed, le-ltb 0 (count_of setting.program) (omega (arith, z)))
