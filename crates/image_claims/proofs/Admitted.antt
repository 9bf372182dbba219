-- What may be run in a page of an image is what may be run on that page alone, if the image, its index and the number are right.
use Prim.Native.Nat.{ℕ, ◌*◌, ◌<◌}
use native.Mathlib.Omega.{arith}
use mathlib.Core.Bool.{true}
use mathlib.Core.List.{List, [], ◌∷◌}
use mathlib.Core.Path.{◌≡◌, sym, ap, subst, ◌∙◌}
use lib.ListN.{length, get_or}
use borrow.Author.Tests.{lt-ltb, eq-eqb}
use Rattle.refusal.specs.Refusals.{Rule, accepted, decision}
use Rattle.refusal.proofs.Theorems.{passes_lem, all_accepted, after_lem}
use Rattle.platform.specs.Programs.{program_rules}
use Rattle.platform.proofs.Theorems.{program_accepts}
use Rattle.count.specs.Count.{count_of, count_program}
use Rattle.state.specs.declared.Record.{Record}
use Rattle.state.specs.Record.{fresh_record, with_place}
use Rattle.image.specs.Images.{page_rules}
use Rattle.image.specs.Index.{counts_in, equal_lists, index_rule}
use Rattle.image.proofs.Laws.{counts_length, count_among, equal_true, true_equal}
use Rattle.image.proofs.Theorems.{HasPage, has_page}
use Rattle.admission.specs.RunRefusals.{lent_rules, area_rules, record_rules, run_decision}
use Rattle.series.specs.Series.{State}
use Rattle.instruction.specs.Fitness.{FitBy}
use Rattle.image_runs.specs.ImageRuns.{image_area_rules, image_decision}
use Rattle.image_runs.proofs.Theorems.{page_fits_lem}
use Rattle.claims.specs.Demand3.{Allowed}
use Rattle.claims.proofs.Admitted.{allowed_start, fresh_starts}
use Rattle.image_claims.specs.ImageMachine.{InPage, program_in, byte_in, alone, AllowedIn, FitStartIn}

-- an image that has the page, and whose index is right
pub record RightImage (x : InPage) : Type 0 where
  pub has : HasPage x.setting.image x.number
  pub right : x.setting.image.index ≡ counts_in x.setting.image

module _ (x : InPage) where
  -- the index byte of the page is then its count
  pub byte_is_count : RightImage x → byte_in x ≡ (count_program (program_in x)).count
  byte_is_count s = ap (λ xs. get_or xs x.number 0) s.right ∙ count_among x.setting.image x.number s.has.inside

  -- and its page is allowed as a program
  program_allowed : RightImage x → decision (program_rules (program_in x)) ≡ accepted
  program_allowed s = program_accepts (program_in x) s.has.profile_known (page_fits_lem x.setting.image.bytes x.number s.has.inside)

  abbrev lent : List ℕ → List Rule
  lent ram = lent_rules x.setting.external x.setting.window ram

  abbrev of_record : ℕ → Record → List Rule
  of_record count r = record_rules (program_in x) count (length x.setting.external) r

  -- what isn't refused in the image isn't refused on the page alone
  pub to_alone : (r : Record) (ram : List ℕ) → image_decision x.setting x.number r ram ≡ accepted → RightImage x × (run_decision (alone x) r ram ≡ accepted)
  unfolding image_decision run_decision
  to_alone r ram e =
      let image = x.setting.image in
      let both = all_accepted (image_area_rules x.setting x.number ram) (of_record (byte_in x) r) e in
      let has = has_page image x.number _ both.0 in
      let index = passes_lem (equal_lists image.index (counts_in image)) 21 [] _ has.1 in
      let right : RightImage x = record { has = has.0; right = equal_true image.index (counts_in image) index.0 } in
      let areas : decision (area_rules (alone x) ram) ≡ accepted =
      after_lem (program_rules (program_in x)) (lent ram) accepted (sym (program_allowed right)) ∙ index.1 in (
        right,
        after_lem (area_rules (alone x) ram) (of_record (count_program (program_in x)).count r) accepted (sym areas)
            ∙ subst (λ count. decision (of_record count r) ≡ accepted) (byte_is_count right) both.1,
      )

  -- and the other way round, where image, index and number are right
  pub from_alone : RightImage x → (r : Record) (ram : List ℕ) → run_decision (alone x) r ram ≡ accepted → image_decision x.setting x.number r ram ≡ accepted
  unfolding image_decision run_decision
  from_alone s r ram e =
      let image = x.setting.image in
      let both = all_accepted (area_rules (alone x) ram) (of_record (count_program (program_in x)).count r) e in
      let lent-accepted = (all_accepted (program_rules (program_in x)) (lent ram) both.0).1 in
      let first : decision (page_rules image x.number) ≡ accepted =
      rw (s.has.profile_known, s.has.sized, lt-ltb _ _ s.has.inside, eq-eqb _ _ s.has.indexed) in
      let same : equal_lists image.index (counts_in image) ≡ true = rw (← s.right) (true_equal image.index) in
      let areas : decision (image_area_rules x.setting x.number ram) ≡ accepted =
      after_lem (page_rules image x.number) (index_rule image ∷ lent ram) accepted (sym first) ∙ rw same lent-accepted in
      after_lem (image_area_rules x.setting x.number ram) (of_record (byte_in x) r) accepted (sym areas)
      ∙ subst (λ count. decision (of_record count r) ≡ accepted) (sym (byte_is_count s)) both.1

  -- ---- what may be run

  allowed_right : AllowedIn x → RightImage x
  allowed_right a = record {
    has = record {
      profile_known = a.profile_known;
      sized = a.image_allowed;
      inside = a.number_allowed;
      indexed = ap length a.index_right ∙ counts_length x.setting.image;
    };
    right = a.index_right;
  }

  allowed_alone : AllowedIn x → Allowed (alone x)
  allowed_alone a = record {
    profile_known = a.profile_known;
    page_allowed = page_fits_lem x.setting.image.bytes x.number a.number_allowed;
    external_allowed = a.external_allowed;
    window_allowed = a.window_allowed;
  }

  -- where a series may start, a call is not refused
  pub allowed_start_in : AllowedIn x → (start : State) → FitStartIn x start → image_decision x.setting x.number start.rec start.ram ≡ accepted
  allowed_start_in a start fit =
      let s = allowed_right a in
      from_alone s start.rec start.ram
      (allowed_start (alone x) (allowed_alone a) start (subst (λ count. FitBy (alone x) count start.rec start.ram) (byte_is_count s) fit))

  pub byte_counts : AllowedIn x → byte_in x ≡ count_of (program_in x)
  byte_counts a = let s = allowed_right a in byte_is_count s ∙ rw (program_allowed s)

  -- a series may start from the fresh record at any bundle below the index byte of the page, with any RAM of its size
  pub fresh_starts_in : AllowedIn x → (ram : List ℕ) → length ram ≡ 32768 → (k : ℕ) → k < byte_in x
      → FitStartIn x (record { rec = with_place fresh_record (2 * k); ram = ram })
  fresh_starts_in a ram n k l =
      subst (λ count. FitBy (alone x) count (with_place fresh_record (2 * k)) ram) (sym (byte_is_count (allowed_right a)))
      (fresh_starts (alone x) (allowed_alone a) ram n k (omega (arith, byte_counts a)))
