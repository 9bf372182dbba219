-- With the empty set every answer of the build paper holds.
use Prim.Native.Nat.{ℕ, ◌+◌, ◌*◌, ◌/◌, ◌%◌, ◌^◌}
use native.Mathlib.Nat.{zero-div}
use native.Mathlib.Omega.{arith}
use mathlib.Core.Bool.{Bool, true, false, cond}
use mathlib.Core.List.{List}
use mathlib.Core.Logic.{⊎_elim}
use mathlib.Core.Path.{◌≡◌, refl, ap, subst}
use lib.Dec.{ltb}
use borrow.Author.Tests.{eqb-true, eqb-false}
use Rattle.prefix.specs.Prefix.{Successors, all_within, greatest_closed}
use Rattle.page.specs.Page.{bundles_in, halfword_at, word_at, page_fits, first_of, second_of}
use Rattle.window.specs.declared.Window.{Window}
use Rattle.platform.specs.Platforms.{never_returns}
use Rattle.platform.specs.Programs.{Program, decode16_in, decode32_in, setting_of, encodings_in}
use Rattle.platform.specs.declared.Platform.{Platform}
use Rattle.isa.specs.Patterns.{matches}
use Rattle.isa.specs.ListedEncodings.{opens32, decode_by}
use Rattle.isa.specs.Profiles.{rows_in}
use Rattle.isa.specs.declared.Instruction.{Instruction}
use Rattle.isa.specs.declared.Instruction.TheVariants.{Data, Memory, Cbz, Cbnz, Bcc, B, Unlisted}
use Rattle.isa.specs.declared.Instruction.TheVariants as instruction
use Rattle.service.specs.Services.{service_of, by_low_byte, literal_service}
use Rattle.ending.specs.Endings.{ending_of, ending_on, ending_in}
use Rattle.literal.specs.declared.Service.{Service}
use Rattle.ending.proofs.Theorems.{only_direct}
use Rattle.flow.specs.Flow.{flow_of}
use Rattle.flow.proofs.Theorems.{SameEnding, terminator_same, flow_same}
use Rattle.bundle.specs.Successors.{successors_of}
use Rattle.count.specs.Count.{count_of}
use Rattle.state.specs.declared.Record.{Record}
use Rattle.place.specs.Places.{is_even, stands_in, instruction_at, second_fits, fit_below, fit_place}
use Rattle.instruction.specs.Fitness.{is_exit}
use Rattle.instruction.specs.Instructions.{served, effect_of, instruction_of}
use Rattle.instruction.proofs.FitPlaces.{Straight, wide_straight}
use Rattle.admission.specs.RunRefusals.{run_decision}
use Rattle.claims.specs.EmptySet.{with_a, with_b, EndsAlike, EndingsAlone, EmptySet}

-- ---- the endings

no_bit : (n : ℕ) → never_returns 0 n ≡ false
no_bit n = rw (zero-div (2 ^ n))

table_ending : (s : Service) → ending_on 0 s ≡ ending_of s
table_ending s = ⊎_elim (λ d. rw (d.1, no_bit d.0)) (λ h. rw (h 0)) (only_direct s)

-- ---- nothing but endings goes by the set

module _ (page : List ℕ) (platform : Platform) (a b : ℕ) where
  abbrev one : Program
  one = with_a page platform a b

  abbrev other : Program
  other = with_b page platform a b

  abbrev Alike : ℕ → Type 0
  Alike = EndsAlike page platform a b

  abbrev Ends : Instruction → Type 0
  Ends = SameEnding one other

  successors_same : (k : ℕ) → Alike (2 * k) → Alike (2 * k + 1)
      → successors_of one k ≡ successors_of other k
  unfolding successors_of
  successors_same k h g = rw (flow_same one other (2 * k) (decode16_in one (first_of page k)) h, flow_same one other (2 * k + 1) (decode16_in one (second_of page k)) g)

  -- ---- the instruction at a place

  not_straight : (i : Instruction) (n : ℕ) → Straight i → i ≡ instruction.Service n → ⊥
  not_straight i n s e = subst Straight e s

  at_place : (place : ℕ) → Alike place → Ends (instruction_at one place)
  unfolding instruction_at stands_in
  at_place place h n = go (ltb (place / 2) (bundles_in page)) (opens32 (first_of page (place / 2))) (is_even place) refl
    where
      -- the halfword there
      here : (p : ℕ) → p ≡ place → decode16_in one (halfword_at page p) ≡ instruction.Service n
          → ending_in one n ≡ ending_in other n
      here p q e = h n (subst (λ x. decode16_in one (halfword_at page x) ≡ instruction.Service n) q e)

      go : (inside wide even : Bool) → is_even place ≡ even
          → cond inside (cond wide (cond even (decode32_in one (first_of page (place / 2)) (second_of page (place / 2))) Unlisted)
          (decode16_in one (cond even (first_of page (place / 2)) (second_of page (place / 2))))) Unlisted ≡ instruction.Service n
          → ending_in one n ≡ ending_in other n
      go true true true q e = absurd (not_straight _ n (wide_straight (encodings_in one) (first_of page (place / 2)) (second_of page (place / 2))) e)
      go true true false q e = absurd (not_straight Unlisted n tt e)
      go true false true q e = here (2 * (place / 2)) (omega (arith, eqb-true (place % 2) 0 q)) e
      go true false false q e = here (2 * (place / 2) + 1) (omega (arith, eqb-false (place % 2) 0 q)) e
      go false wide even q e = absurd (not_straight Unlisted n tt e)

  effect_same : (external : List ℕ) (window : Window) (r : Record) (ram : List ℕ) (i : Instruction) → Ends i
      → effect_of (setting_of one external window) r ram i ≡ effect_of (setting_of other external window) r ram i
  unfolding effect_of served
  effect_same external window r ram (Data operation) h = refl
  effect_same external window r ram (Memory access) h = refl
  effect_same external window r ram (Cbz imm6 n) h = refl
  effect_same external window r ram (Cbnz imm6 n) h = refl
  effect_same external window r ram (Bcc condition imm8) h = refl
  effect_same external window r ram (B imm11) h = refl
  effect_same external window r ram (instruction.Service n) h = rw (h n refl)
  effect_same external window r ram Unlisted h = refl

  instruction_same : (external : List ℕ) (window : Window) (r : Record) (ram : List ℕ) → Alike r.place
      → instruction_of (setting_of one external window) r ram ≡ instruction_of (setting_of other external window) r ram
  unfolding instruction_of instruction_at
  instruction_same external window r ram h = effect_same external window r ram (instruction_at one r.place) (at_place r.place h)

  -- ---- where all of the page ends alike

  module _ (h : (place : ℕ) → Alike place) where
    count_same : count_of one ≡ count_of other
    count_same = ap (λ (next : ℕ → Successors). greatest_closed next (bundles_in page)) (λ i k. successors_same k (h (2 * k)) (h (2 * k + 1)) i)

    fit_same : (place : ℕ) → fit_place one place ≡ fit_place other place
    unfolding fit_below second_fits
    fit_same place = rw (count_same, terminator_same one other (decode16_in one (first_of page (place / 2))) (h (2 * (place / 2))))

    decision-same : (external : List ℕ) (window : Window) (r : Record) (ram : List ℕ)
        → run_decision (setting_of one external window) r ram ≡ run_decision (setting_of other external window) r ram
    unfolding run_decision
    decision-same external window r ram = rw (fit_same r.place)

    all_same : (external : List ℕ) (window : Window) → instruction_of (setting_of one external window) ≡ instruction_of (setting_of other external window)
    all_same external window = λ i r ram. instruction_same external window r ram (h r.place) i

  endings_alone : EndingsAlone page platform a b
  endings_alone = record {
    successors = successors_same;
    read = λ k h g. rw (successors_same k h g);
    instructions = instruction_same;
    counted = λ h. rw (count_same h);
    ran = λ h external window budget r ram. rw (decision-same h external window r ram, all_same h external window);
  }

-- ---- the empty set

pub empty_set : EmptySet
unfolding served greatest_closed all_within successors_of flow_of service_of by_low_byte literal_service halfword_at word_at page_fits opens32 decode_by rows_in matches
empty_set = record {
  endings = table_ending;
  terminators = λ page platform n. rw (table_ending (service_of page n));
  jumps = λ page platform place n. rw (table_ending (service_of page n));
  services = λ page platform external window r ram n. rw (table_ending (service_of page n));
  exits = λ page platform n. ap is_exit (table_ending (service_of page n));
  elsewhere = endings_alone;
  never_returns = refl;
  returns = refl;
}
