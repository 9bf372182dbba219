-- Replacements in a row, on an image whose index was built afresh: what is claimed.
use Rattle.std.specs.Prelude.{ℕ, List, [], ◌≡◌, length}
use Rattle.refusal.specs.Refusals.{Decision, accepted, refused}
use Rattle.window.specs.declared.Window.{Window}
use Rattle.state.specs.declared.Record.{Record}
use Rattle.image.specs.Images.{Image, page_at, byte_of}
use Rattle.image.specs.Index.{count_at, counts_in}
use Rattle.series.specs.HandedOn.{Standing, InSeries, left_by_all, HandedOn}
use Rattle.image_runs.specs.ImageRuns.{image_setting_of, image_decision}

-- calls that build or replace: what each was handed, whether it was refused, and the image and index that it left. An image holds the
-- platform too
pub record Building : Type 1 where
  pub Build : Type 0
  pub built : Build → Image
  pub build_told : Build → Decision
  pub Replace : Type 0
  pub handed : Replace → Image
  pub number : Replace → ℕ
  pub page : Replace → List ℕ
  pub told : Replace → Decision
  pub left : Replace → Image

-- what stands between two calls, as in a series of runs: the image's bytes in the place of a record, and its index in that of RAM
abbrev pub standing : Image → Standing (List ℕ)
standing image = record { rec = image.bytes; ram = image.index }

-- and back, with an image's platform
abbrev pub on_platform_of : Image → Standing (List ℕ) → Image
on_platform_of image s = record { bytes = s.rec; index = s.ram; never_return = image.never_return; profile = image.profile }

abbrev pub SamePlatform : Image → Image → Type 0
SamePlatform a b = (a.never_return ≡ b.never_return) × (a.profile ≡ b.profile)

module _ (b : Building) where
  -- a call is the row's own, handed the image and the index that stand, with the platform that the index was built with; or another, which
  -- is refused, and may have been handed them or foreign ones, each by itself. Nothing else writes them
  abbrev pub InARow : Image → List (InSeries b.Replace) → Type 0
  InARow first cs =
      HandedOn (λ c. standing (b.left c)) (λ c. standing (b.handed c)) (λ c. SamePlatform (b.handed c) first)
      (λ c. (n : ℕ) × (values : List ℕ) × (b.told c ≡ refused n values)) cs (standing first)

  -- what stands after the last
  abbrev pub image_after : Image → List (InSeries b.Replace) → Image
  image_after first cs = on_platform_of first (left_by_all (λ c. standing (b.left c)) cs (standing first))

  pub record Replacements : Type 0 where
    -- after any replacements, refused ones among them, from an index that was built afresh, the index equals the counts worked out afresh
    pub index_is_fresh : (first : b.Build) → b.build_told first ≡ accepted → (cs : List (InSeries b.Replace)) → InARow (b.built first) cs
        → (image_after (b.built first) cs).index ≡ counts_in (image_after (b.built first) cs)
    -- and so no run with that image is refused by 21
    pub never_21 : (first : b.Build) → b.build_told first ≡ accepted → (cs : List (InSeries b.Replace)) → InARow (b.built first) cs
        → (external : List ℕ) (window : Window) (p : ℕ) (r : Record) (ram : List ℕ)
        → image_decision (image_setting_of (image_after (b.built first) cs) external window) p r ram ≡ refused 21 [] → ⊥
    -- a replacement that isn't refused puts the page at its number, and its count into the byte
    pub page_put : (c : b.Replace) → b.told c ≡ accepted → page_at (b.left c).bytes (b.number c) ≡ b.page c
    pub byte_put : (c : b.Replace) → b.told c ≡ accepted → byte_of (b.left c) (b.number c) ≡ count_at (b.left c) (b.number c)
    -- every other page and every other byte of the index stay, and the lengths
    pub other_pages : (c : b.Replace) (q : ℕ) → (q ≡ b.number c → ⊥) → page_at (b.left c).bytes q ≡ page_at (b.handed c).bytes q
    pub other_bytes : (c : b.Replace) (q : ℕ) → (q ≡ b.number c → ⊥) → byte_of (b.left c) q ≡ byte_of (b.handed c) q
    pub same_lengths : (c : b.Replace)
        → (length (b.left c).bytes ≡ length (b.handed c).bytes) × (length (b.left c).index ≡ length (b.handed c).index)
    -- a refused one leaves everything
    pub refused_leaves : (c : b.Replace) (n : ℕ) (values : List ℕ) → b.told c ≡ refused n values → b.left c ≡ b.handed c
