-- After any replacements the index equals the counts worked out afresh.
use Prim.Native.Nat.{ℕ, ◌/◌, ◌<◌}
use native.Mathlib.Omega.{arith}
use mathlib.Core.Bool.{Bool, true, false, not, ◌&&◌, cond, true≢false}
use mathlib.Core.List.{List, [], ◌∷◌}
use mathlib.Core.Path.{◌≡◌, refl, sym, ap, subst, ◌∙◌}
use lib.Dec.{eqb}
use lib.ListN.{length, get_or, length-set}
use lib.Seq.{get_or-set_same, get_or-set_other, ext_get_or}
use borrow.Author.Tests.{eqb-true, eqb-false}
use Rattle.refusal.specs.Refusals.{Decision, accepted, refused}
use Rattle.refusal.proofs.Theorems.{refusing_line}
use Rattle.state.specs.declared.Record.{Record}
use Rattle.window.specs.declared.Window.{Window}
use Rattle.image.specs.Images.{Image, pages_in, page_at, byte_of}
use Rattle.image.specs.Index.{count_at, counts_in, equal_lists, replace_decision, replaced, after_replace}
use Rattle.image.proofs.Laws.{counts_length, count_among, true_equal}
use Rattle.image.proofs.Theorems.{HasPage, replace_accepted}
use Rattle.image_runs.specs.ImageRuns.{image_setting_of, image_run_rules, image_decision}
use Rattle.series.specs.HandedOn.{Standing, InSeries, own, other, left_by, left_by_all, HandedOn}
use Rattle.series.proofs.Theorems.{stays}
use Rattle.image_claims.specs.Replacements.{Building, standing, on_platform_of, SamePlatform, image_after, Replacements}
use Rattle.image_claims.proofs.Pages.{put_length, put_page, other_page}

-- ---- one replacement that isn't refused

module _ (image : Image) (p : ℕ) (page : List ℕ) (e : replace_decision image p page ≡ accepted) where
  abbrev after_lem : Image
  after_lem = replaced image p page

  has : HasPage image p
  has = (replace_accepted image p page e).0

  whole : length page ≡ 256
  whole = (replace_accepted image p page e).1

  same_pages : pages_in after_lem.bytes ≡ pages_in image.bytes
  same_pages = ap (λ n. n / 256) (put_length image.bytes page p whole has.inside)

  put : page_at after_lem.bytes p ≡ page
  put = put_page image.bytes page p whole has.inside

  own_byte : byte_of after_lem p ≡ count_at after_lem p
  own_byte = get_or-set_same image.index p _ 0 (omega (arith, has.inside, has.indexed)) ∙ rw put

  other_count : (q : ℕ) → (q ≡ p → ⊥) → count_at after_lem q ≡ count_at image q
  other_count q apart = rw (other_page image.bytes page p q whole has.inside apart)

  still_fresh : image.index ≡ counts_in image → after_lem.index ≡ counts_in after_lem
  still_fresh fresh = ext_get_or 0 after_lem.index (counts_in after_lem) lengths (λ q l. at_byte q (inside q l) (eqb q p) refl)
    where
      lengths : length after_lem.index ≡ length (counts_in after_lem)
      lengths = length-set image.index p _ ∙ has.indexed ∙ sym same_pages ∙ sym (counts_length after_lem)

      inside : (q : ℕ) → q < length after_lem.index → q < pages_in after_lem.bytes
      inside q l = omega (arith, lengths, counts_length after_lem)

      at_byte : (q : ℕ) → q < pages_in after_lem.bytes → (t : Bool) → eqb q p ≡ t → byte_of after_lem q ≡ get_or (counts_in after_lem) q 0
      at_byte q l true same = let here = eqb-true q p same in rw (count_among after_lem q l, here) own_byte
      at_byte q l false apart =
          let other = eqb-false q p apart in
          get_or-set_other image.index p q _ 0 other ∙ ap (λ xs. get_or xs q 0) fresh
          ∙ count_among image q (omega (arith, same_pages)) ∙ sym (other_count q other) ∙ sym (count_among after_lem q l)

-- ---- a right index

right_index : (image : Image) → image.index ≡ counts_in image → (external : List ℕ) (window : Window) (p : ℕ) (r : Record) (ram : List ℕ)
    → image_decision (image_setting_of image external window) p r ram ≡ refused 21 [] → ⊥
unfolding image_decision
right_index image fresh external window p r ram e =
    true≢false (refusing_line (λ test n values. (eqb n 21 && test) ≡ false) (image_run_rules (image_setting_of image external window) p r ram)
    (refl, (refl, (refl, (refl, (ap not same, (refl, (refl, (refl, (refl, (refl, (refl, (refl, (refl, tt))))))))))))) 21 [] e)
  where
    same : equal_lists image.index (counts_in image) ≡ true
    same = rw (← fresh) (true_equal image.index)

-- ---- calls

-- what is asked of calls: their contracts
pub record MeetsBuilding (b : Building) : Type 0 where
  pub built : (c : b.Build) → b.build_told c ≡ accepted → (b.built c).index ≡ counts_in (b.built c)
  pub told : (c : b.Replace) → b.told c ≡ replace_decision (b.handed c) (b.number c) (b.page c)
  pub left : (c : b.Replace) → b.left c ≡ after_replace (b.handed c) (b.number c) (b.page c)

module _ (b : Building) (m : MeetsBuilding b) where
  left_accepted : (c : b.Replace) → b.told c ≡ accepted → b.left c ≡ replaced (b.handed c) (b.number c) (b.page c)
  left_accepted c e = m.left c ∙ rw (sym (m.told c) ∙ e)

  left_refused : (c : b.Replace) (n : ℕ) (values : List ℕ) → b.told c ≡ refused n values → b.left c ≡ b.handed c
  left_refused c n values e = m.left c ∙ rw (sym (m.told c) ∙ e)

  accepts : (c : b.Replace) → b.told c ≡ accepted → replace_decision (b.handed c) (b.number c) (b.page c) ≡ accepted
  accepts c e = sym (m.told c) ∙ e

  -- what holds of what an accepted call puts, and of what it was handed, holds of what it leaves
  left_holds : (P : Image → Type 0) (c : b.Replace)
      → (replace_decision (b.handed c) (b.number c) (b.page c) ≡ accepted → P (replaced (b.handed c) (b.number c) (b.page c)))
      → P (b.handed c) → P (b.left c)
  left_holds P c put kept = go (b.told c) refl
    where
      go : (d : Decision) → b.told c ≡ d → P (b.left c)
      go accepted e = subst P (sym (left_accepted c e)) (put (accepts c e))
      go (refused n values) e = subst P (sym (left_refused c n values e)) kept

  keeps_fresh : (c : b.Replace) → (b.handed c).index ≡ counts_in (b.handed c) → (b.left c).index ≡ counts_in (b.left c)
  keeps_fresh c fresh =
      left_holds (λ x. x.index ≡ counts_in x) c (λ e. still_fresh (b.handed c) (b.number c) (b.page c) e fresh) fresh

  -- a call changes no platform
  platform_stays : (c : b.Replace) → SamePlatform (b.left c) (b.handed c)
  platform_stays c = left_holds (λ x. SamePlatform x (b.handed c)) c (λ e. (refl, refl)) (refl, refl)

  module _ (first : Image) where
    -- what stands has a right index, under the platform that it was built with
    abbrev Fresh : Standing (List ℕ) → Type 0
    Fresh s = (on_platform_of first s).index ≡ counts_in (on_platform_of first s)

    on-platform : (image : Image) → SamePlatform image first → image ≡ on_platform_of first (standing image)
    on-platform image same = λ i. record { bytes = image.bytes; index = image.index; never_return = same.0 i; profile = same.1 i }

    own_fresh : (c : b.Replace) (s : Standing (List ℕ)) → SamePlatform (b.handed c) first → standing (b.handed c) ≡ s → Fresh s
        → Fresh (standing (b.left c))
    own_fresh c s same handed fresh =
        let stays = platform_stays c in
        let given : b.handed c ≡ on_platform_of first s = on-platform (b.handed c) same ∙ ap (on_platform_of first) handed in
        subst (λ (x : Image). x.index ≡ counts_in x) (on-platform (b.left c) (stays.0 ∙ same.0, stays.1 ∙ same.1))
        (keeps_fresh c (subst (λ (x : Image). x.index ≡ counts_in x) (sym given) fresh))

    all-fresh : (cs : List (InSeries b.Replace)) (s : Standing (List ℕ)) → Fresh s
        → HandedOn (λ c. standing (b.left c)) (λ c. standing (b.handed c)) (λ c. SamePlatform (b.handed c) first)
        (λ c. (n : ℕ) × (values : List ℕ) × (b.told c ≡ refused n values)) cs s
        → Fresh (left_by_all (λ c. standing (b.left c)) cs s)
    all-fresh [] s fresh h = fresh
    all-fresh (own c ∷ cs) s fresh h = all-fresh cs (standing (b.left c)) (own_fresh c s h.0.0 h.0.1 fresh) h.1
    all-fresh (other row_image row_index c ∷ cs) s fresh h =
        all-fresh cs (left_by (λ x. standing (b.left x)) (other row_image row_index c) s) (subst Fresh (sym still) fresh) h.1
      where
        same : b.left c ≡ b.handed c
        same = left_refused c h.0.0.0 h.0.0.1 h.0.0.2

        bytes : cond row_image (b.left c).bytes s.rec ≡ s.rec
        bytes = stays row_image s.rec (b.left c).bytes (λ t. ap (λ (x : Image). x.bytes) same ∙ h.0.1 t)

        index : cond row_index (b.left c).index s.ram ≡ s.ram
        index = stays row_index s.ram (b.left c).index (λ t. ap (λ (x : Image). x.index) same ∙ h.0.2 t)

        still : left_by (λ x. standing (b.left x)) (other row_image row_index c) s ≡ s
        still = λ i. record { rec = bytes i; ram = index i }

  -- what a call doesn't change, refused or not
  page_stays : (c : b.Replace) (q : ℕ) → (q ≡ b.number c → ⊥) → page_at (b.left c).bytes q ≡ page_at (b.handed c).bytes q
  page_stays c q apart =
      left_holds (λ x. page_at x.bytes q ≡ page_at (b.handed c).bytes q) c
      (λ e.
      let h = replace_accepted (b.handed c) (b.number c) (b.page c) e in
      other_page (b.handed c).bytes (b.page c) (b.number c) q h.1 h.0.inside apart)
      refl

  byte_stays : (c : b.Replace) (q : ℕ) → (q ≡ b.number c → ⊥) → byte_of (b.left c) q ≡ byte_of (b.handed c) q
  byte_stays c q apart =
      left_holds (λ x. byte_of x q ≡ byte_of (b.handed c) q) c (λ e. get_or-set_other (b.handed c).index (b.number c) q _ 0 apart) refl

  lengths_stay : (c : b.Replace)
      → (length (b.left c).bytes ≡ length (b.handed c).bytes) × (length (b.left c).index ≡ length (b.handed c).index)
  lengths_stay c =
      left_holds (λ x. (length x.bytes ≡ length (b.handed c).bytes) × (length x.index ≡ length (b.handed c).index)) c
      (λ e.
      let h = replace_accepted (b.handed c) (b.number c) (b.page c) e in
      (put_length (b.handed c).bytes (b.page c) (b.number c) h.1 h.0.inside, length-set (b.handed c).index (b.number c) _))
      (refl, refl)

  pub replacements : Replacements b
  replacements = record {
    index_is_fresh = λ first e cs h. all-fresh (b.built first) cs (standing (b.built first)) (m.built first e) h;
    never_21 = λ first e cs h external window p r ram.
        right_index (image_after b (b.built first) cs) (all-fresh (b.built first) cs (standing (b.built first)) (m.built first e) h) external window p r ram;
    page_put = λ c e.
        ap (λ (x : Image). page_at x.bytes (b.number c)) (left_accepted c e) ∙ put (b.handed c) (b.number c) (b.page c) (accepts c e);
    byte_put = λ c e. rw (left_accepted c e) (own_byte (b.handed c) (b.number c) (b.page c) (accepts c e));
    other_pages = page_stays;
    other_bytes = byte_stays;
    same_lengths = lengths_stay;
    refused_leaves = left_refused;
  }
