-- A host's calls of `mb_raw_run` and `mb_raw_step` are as is asked of a host's calls.
use Prim.Native.Nat.{ℕ}
use mathlib.Core.List.{List, []}
use mathlib.Core.Path.{◌≡◌, refl}
use Rattle.state.specs.declared.Record.{Record}
use Rattle.platform.specs.Programs.{Setting}
use Rattle.admission.specs.RunRefusals.{run_rules, run_decision}
use Rattle.claims.proofs.Machines.{lone_page_keeps}
use Rattle.claims.proofs.Windows.{within_window}
use Rattle.host_series.proofs.HeldAfter.{held_after}
use Rattle.host_series.proofs.HostCalls.{crossed_from, MeetsHost}
use Rattle.host_series.proofs.Refused.{values_in, bare_refusal}
use Rattle.host_claims.specs.HostCalls.{LentBytes, HostCall, of_run, of_step, lent_to, crossed_by, lone_host}

-- the contracts
meets : (c : HostCall) → crossed_by c ≡ crossed_from lone_host (lent_to c)
meets (of_run κs a x s bytes contract) = contract
meets (of_step κs a x s bytes contract) = contract

lent_bytes : (c : HostCall) → LentBytes (lent_to c)
lent_bytes (of_run κs a x s bytes contract) = bytes
lent_bytes (of_step κs a x s bytes contract) = bytes

no_values : (setting : Setting) (r : Record) (ram : List ℕ) → values_in (run_decision setting r ram) ≡ []
unfolding run_decision
no_values setting r ram = bare_refusal (run_rules setting r ram) (refl, (refl, (refl, (refl, (refl, (refl, (refl, (refl, (refl, (refl, tt))))))))))

pub meets_host : MeetsHost lone_host
meets_host = record {
  keeps = lone_page_keeps;
  within = within_window;
  no_values = no_values;
  by_length = λ setting a b e. rw e;
  meets = meets;
  lent_bytes = λ c. (lent_bytes c).bytes;
  held = λ c r a h.
      held_after (lent_to c).setting (lent_bytes c).page (lent_bytes c).external (lent_to c).budget r (lent_to c).ram a h (lent_bytes c).ram;
}
