-- A run in page p of an image beside a run on that page alone: what is claimed.
use Rattle.std.specs.Prelude.{ℕ, List, ◌≡◌}
use Rattle.refusal.specs.Refusals.{accepted}
use Rattle.platform.specs.Programs.{Setting}
use Rattle.state.specs.declared.Record.{Record}
use Rattle.series.specs.Machine.{Handed}
use Rattle.admission.specs.RunRefusals.{run_decision}
use Rattle.image_runs.specs.ImageRuns.{image_decision}
use Rattle.claims.specs.Demand3.{CodeCall}
use Rattle.claims.specs.Demand3 as lone
use Rattle.image_claims.specs.ImageMachine.{InPage, alone, ImageCall, handed_to, gave_by}

-- equal budgets, records and RAMs, and page p is the lone one; external data, window, set and profile are the same
pub record HandedAlike (h : Handed InPage) (k : Handed Setting) : Type 0 where
  pub setting : alone h.setting ≡ k.setting
  pub budget : h.budget ≡ k.budget
  pub rec : h.rec ≡ k.rec
  pub ram : h.ram ≡ k.ram

pub record NeitherRefused (h : Handed InPage) (k : Handed Setting) : Type 0 where
  pub in_image : image_decision h.setting.setting h.setting.number h.rec h.ram ≡ accepted
  pub on_page : run_decision k.setting k.rec k.ram ≡ accepted

pub record AsAlone : Type 0 where
  -- where neither is refused, they give the same
  pub same : (c : ImageCall) (d : CodeCall) → HandedAlike (handed_to c) (lone.handed_to d) → NeitherRefused (handed_to c) (lone.handed_to d)
      → gave_by c ≡ lone.gave_by d
  -- and what isn't refused in the image isn't refused on the page alone
  pub not_refused : (x : InPage) (r : Record) (ram : List ℕ) → image_decision x.setting x.number r ram ≡ accepted
      → run_decision (alone x) r ram ≡ accepted
