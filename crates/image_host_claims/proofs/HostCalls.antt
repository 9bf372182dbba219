-- A host's calls of `mb_raw_image_run` and `mb_raw_image_step` are as is asked of a host's calls.
use Prim.Native.Nat.{ℕ, ◌*◌}
use native.Mathlib.Omega.{arith}
use native.Mathlib.Decide.{dec_lt}
use mathlib.Core.List.{List, []}
use mathlib.Core.Path.{◌≡◌, refl}
use lib.ListN.{drop, length-take, get_or-eq_default}
use lib.Seq.{get_or-take, get_or-drop}
use Rattle.state.specs.declared.Record.{Record}
use Rattle.image.specs.Images.{page_at}
use Rattle.image_runs.specs.ImageRuns.{image_run_rules, image_decision}
use Rattle.image_claims.specs.ImageMachine.{InPage, alone}
use Rattle.image_claims.proofs.Admitted.{to_alone}
use Rattle.image_claims.proofs.Machines.{image_page_keeps, image_within_window}
use Rattle.host_series.specs.Host.{Bytes}
use Rattle.host_series.proofs.HeldAfter.{held_after}
use Rattle.host_series.proofs.HostCalls.{crossed_from, MeetsHost}
use Rattle.host_series.proofs.Refused.{values_in, bare_refusal}
use Rattle.image_host_claims.specs.HostImageRuns.{LentBytes, HostImageCall, of_run, of_step, lent_to, crossed_by, image_host}

-- the contracts
meets : (c : HostImageCall) → crossed_by c ≡ crossed_from image_host (lent_to c)
meets (of_run κs a x s bytes contract) = contract
meets (of_step κs a x s bytes contract) = contract

lent_bytes : (c : HostImageCall) → LentBytes (lent_to c)
lent_bytes (of_run κs a x s bytes contract) = bytes
lent_bytes (of_step κs a x s bytes contract) = bytes

-- a page of bytes is bytes
page_bytes : (xs : List ℕ) (p : ℕ) → Bytes xs → Bytes (page_at xs p)
page_bytes xs p h k = elim (dec_lt k 256) [
  | yes l ↦ rw (get_or-take 256 (drop (256 * p) xs) k 0 l, get_or-drop (256 * p) xs k 0) (h _)
  | no l ↦ rw (get_or-eq_default (page_at xs p) 0 {n = k} (omega (arith, length-take 256 (drop (256 * p) xs)))) (omega arith)
]

no_values : (x : InPage) (r : Record) (ram : List ℕ) → values_in (image_decision x.setting x.number r ram) ≡ []
unfolding image_decision
no_values x r ram =
    bare_refusal (image_run_rules x.setting x.number r ram)
    (refl, (refl, (refl, (refl, (refl, (refl, (refl, (refl, (refl, (refl, (refl, (refl, (refl, tt)))))))))))))

pub meets_image_host : MeetsHost image_host
meets_image_host = record {
  keeps = image_page_keeps;
  within = image_within_window;
  no_values = no_values;
  by_length = λ x a b e. rw e;
  meets = meets;
  lent_bytes = λ c. (lent_bytes c).bytes;
  held = λ c r a h.
      let x = (lent_to c).setting in
      held_after (alone x) (page_bytes x.setting.image.bytes x.number (lent_bytes c).image) (lent_bytes c).external (lent_to c).budget r (lent_to c).ram
      (to_alone x r (lent_to c).ram a).1 h (lent_bytes c).ram;
}
