-- Of two sets of listed encodings of which one is a subset of the other, the smaller gives no larger count; and so does the small profile
-- beside the full one.
use Prim.Native.Nat.{ℕ, ◌+◌, ◌*◌, ◌≤◌}
use native.Mathlib.Omega.{arith}
use mathlib.Core.Bool.{Bool, true, false, not, cond}
use Rattle.refusal.specs.Refusals.{accepted, refused, when_accepted}
use mathlib.Core.List.{List, []}
use mathlib.Core.Logic.{◌⊎◌, inl, inr, ⊎_elim}
use mathlib.Core.Path.{◌≡◌, refl, ap, ◌∙◌}
use Rattle.prefix.specs.Prefix.{bad, SameUnlessBad, all_within, greatest_closed}
use Rattle.prefix.proofs.Theorems.{count_looser}
use Rattle.page.specs.Page.{bundles_in, first_of, second_of, halfword_at, word_at, page_fits}
use Rattle.isa.specs.Patterns.{matches}
use Rattle.isa.specs.ListedEncodings.{opens32, decode_by, listed16, listed32, word_of}
use Rattle.isa.specs.Profiles.{Encodings, rows_in, full, small, lists}
use Rattle.isa.specs.declared.Instruction.{Instruction}
use Rattle.isa.specs.declared.Instruction.TheVariants.{Unlisted}
use Rattle.isa.proofs.Theorems.{apart16, apart32}
use Rattle.isa.proofs.Profiles.{Subset, same_or_unlisted, small_in_full}
use Rattle.isa.proofs.Profiles as profiles
use Rattle.platform.specs.Platforms.{platform_of}
use Rattle.platform.specs.Programs.{Program, program_of, decode16_in, decode32_in}
use Rattle.service.specs.Services.{service_of, by_low_byte, literal_service}
use Rattle.branch.specs.Branches.{bundle_at}
use Rattle.flow.specs.Flow.{flow_of, listed}
use Rattle.bundle.specs.Successors.{after_first, wide, narrow, successors_of}
use Rattle.flow.proofs.Theorems.{flow_same}
use Rattle.flow.specs.declared.Flow.{Flow}
use Rattle.flow.specs.declared.Flow.TheVariants.{Bad, Next, NextOr, To, Ends}
use Rattle.count.specs.Count.{count_of, CountAnswer, count_program, seen_count}
use Rattle.place.specs.Places.{stands_in, instruction_at}
use Rattle.instruction.specs.Instructions.{effect_of, instruction_of}
use Rattle.admission.specs.RunRefusals.{run_decision}
use Rattle.claims.specs.Demand2.{CountCall, count_page, count_platform}
use Rattle.claims.specs.SmallProfile.{SmallProfile}

-- ---- a set of listed encodings and a subset of it, on one page with one set of syscalls

-- an unlisted second instruction makes any bundle bad
bad_second : (first : Flow) (next : ℕ) → after_first first false Bad next ≡ bad
bad_second Bad next = refl
bad_second Next next = refl
bad_second (NextOr b) next = refl
bad_second (To b) next = refl
bad_second Ends next = refl

module _ (page : List ℕ) (set : ℕ) (fewer more : Encodings) (subset : Subset fewer more) where
  abbrev stricter : Program
  stricter = record { page = page; never_return = set; profile = lists fewer }

  abbrev looser : Program
  looser = record { page = page; never_return = set; profile = lists more }

  -- services don't go by the encodings, and so flows don't
  flow_alike : (place : ℕ) (i : Instruction) → flow_of stricter place i ≡ flow_of looser place i
  flow_alike place i = flow_same stricter looser place i (λ n e. refl)

  unlisted_flow : (place : ℕ) → flow_of stricter place Unlisted ≡ Bad
  unfolding flow_of
  unlisted_flow place = refl

  wide_same : (next : ℕ) (i j : Instruction) → (i ≡ Unlisted) ⊎ (i ≡ j) → (wide i next ≡ bad) ⊎ (wide i next ≡ wide j next)
  wide_same next i j h = ⊎_elim (λ e. inl (rw e)) (λ e. inr (rw e)) h

  narrow_same : (k : ℕ) (i j i' j' : Instruction) → (i ≡ Unlisted) ⊎ (i ≡ i') → (j ≡ Unlisted) ⊎ (j ≡ j')
      → (narrow stricter k i j ≡ bad) ⊎ (narrow stricter k i j ≡ narrow looser k i' j')
  narrow_same k i j i' j' h g =
      ⊎_elim
      (λ e. inl (ap (λ (x : Instruction). narrow stricter k x j) e
      ∙ ap (λ (f : Flow). after_first f (listed j) (flow_of stricter (2 * k + 1) j) (k + 1)) (unlisted_flow (2 * k))))
      (λ e. ⊎_elim
      (λ d. inl (ap (narrow stricter k i) d
      ∙ ap (λ (f : Flow). after_first (flow_of stricter (2 * k) i) false f (k + 1)) (unlisted_flow (2 * k + 1))
      ∙ bad_second (flow_of stricter (2 * k) i) (k + 1)))
      (λ d. inr (ap (λ (x : Instruction). narrow stricter k x j) e
      ∙ ap (narrow stricter k i') d
      ∙ ap (λ (f : Flow). after_first f (listed j') (flow_of stricter (2 * k + 1) j') (k + 1)) (flow_alike (2 * k) i')
      ∙ ap (λ (f : Flow). after_first (flow_of looser (2 * k) i') (listed j') f (k + 1)) (flow_alike (2 * k + 1) j'))) g)
      h

  same_unless_bad : SameUnlessBad (successors_of stricter) (successors_of looser)
  unfolding successors_of
  same_unless_bad k = go (opens32 first) (opens32 second)
    where
      first : ℕ
      first = first_of page k

      second : ℕ
      second = second_of page k

      go : (x y : Bool)
          → (cond x (wide (decode32_in stricter first second) (k + 1))
          (cond y bad (narrow stricter k (decode16_in stricter first) (decode16_in stricter second))) ≡ bad)
          ⊎ (cond x (wide (decode32_in stricter first second) (k + 1))
          (cond y bad (narrow stricter k (decode16_in stricter first) (decode16_in stricter second)))
          ≡ cond x (wide (decode32_in looser first second) (k + 1))
          (cond y bad (narrow looser k (decode16_in looser first) (decode16_in looser second))))
      go true y = wide_same (k + 1) _ _ (same_or_unlisted fewer more subset listed32 apart32 (word_of first second))
      go false true = inl refl
      go false false =
          narrow_same k _ _ _ _ (same_or_unlisted fewer more subset listed16 apart16 first) (same_or_unlisted fewer more subset listed16 apart16 second)

  pub count_of_subset : count_of stricter ≤ count_of looser
  count_of_subset = count_looser (successors_of stricter) (successors_of looser) same_unless_bad (bundles_in page)

-- ---- the claim

-- of a page that is refused the count is 0
at_most : (page : List ℕ) (set : ℕ) → (count_program (program_of page (platform_of set 1))).count ≤ (count_program (program_of page (platform_of set 0))).count
at_most page set = go (page_fits page) (count_of_subset page set small full small_in_full)
  where
    go : (fits : Bool) {s l : ℕ} → s ≤ l
        → when_accepted (cond (not fits) (refused 1 []) accepted) s 0 ≤ when_accepted (cond (not fits) (refused 1 []) accepted) l 0
    go true h = h
    go false h = omega arith

abbrev number : CountAnswer → ℕ
number a = a.count

-- the two calls, by their contracts
smaller_count : (small full : CountCall) → count_page small ≡ count_page full
    → (set : ℕ) → count_platform small ≡ platform_of set 1 → count_platform full ≡ platform_of set 0
    → (seen_count small.answer).count ≤ (seen_count full.answer).count
smaller_count s f p set e d =
    let less : (seen_count s.answer).count ≡ (count_program (program_of (count_page f) (platform_of set 1))).count =
    ap number s.contract ∙ (λ i. (count_program (program_of (p i) (e i))).count) in
    let more : (seen_count f.answer).count ≡ (count_program (program_of (count_page f) (platform_of set 0))).count =
    ap number f.contract ∙ (λ i. (count_program (program_of (count_page f) (d i))).count) in
    omega (arith, less, more, at_most (count_page f) set)

pub small_profile : SmallProfile
unfolding greatest_closed all_within successors_of flow_of bundle_at service_of by_low_byte literal_service halfword_at word_at page_fits opens32 decode_by rows_in matches instruction_of instruction_at stands_in effect_of run_decision
small_profile = record {
  full16 = λ h. refl;
  full32 = λ first second. refl;
  small16 = profiles.small16;
  small32 = λ first second. refl;
  successors = λ page set. same_unless_bad page set small full small_in_full;
  count = smaller_count;
  movw = refl;
  cbz = refl;
  cbnz = refl;
  behind = refl;
  alike = refl;
  marked16 = λ ram. refl;
  marked32 = λ ram. refl;
  unknown = λ setting e budget r ram. rw e;
}
