-- The small profile, beside the full one: what is claimed.
use Rattle.std.specs.Prelude.{ℕ, ◌≤◌, false, not, cond, List, [], ◌∷◌, ◌≡◌}
use Rattle.prefix.specs.Prefix.{SameUnlessBad}
use Rattle.isa.specs.ListedEncodings.{decode16_of, decode32_of}
use Rattle.isa.specs.Profiles.{compares_and_branches, profile_of, is_known, encodings_of, decode16_by, decode32_by}
use Rattle.isa.specs.declared.Instruction.TheVariants.{Unlisted}
use Rattle.window.specs.Windows.{whole_ram}
use Rattle.platform.specs.Platforms.{platform_of}
use Rattle.platform.specs.Programs.{program_of, Setting, setting_of}
use Rattle.bundle.specs.Successors.{successors_of}
use Rattle.count.specs.Count.{seen_count}
use Rattle.state.specs.Record.{fresh_record}
use Rattle.state.specs.declared.Record.{Record}
use Rattle.stop.specs.Stops.{refused}
use Rattle.plain.specs.PlainMachine.{Effect, unlisted}
use Rattle.instruction.specs.Instructions.{instruction_of}
use Rattle.machine.specs.Runs.{run_of}
use Rattle.claims.specs.Pages.{page_of, count_on}
use Rattle.claims.specs.Demand2.{CountCall, count_page, count_platform}

-- the counts of a page of these halfwords under profiles 0 and 1, where all direct syscalls return
abbrev pub both_counts : List ℕ → ℕ × ℕ
both_counts halfwords = (count_on (platform_of 0 0) halfwords, count_on (platform_of 0 1) halfwords)

-- what the instruction at place 0 of such a page does under profile 1
abbrev pub effect_in : List ℕ → List ℕ → Effect
effect_in halfwords ram = instruction_of (setting_of (program_of (page_of halfwords) (platform_of 0 1)) [] whole_ram) fresh_record ram

pub record SmallProfile : Type 1 where
  -- profile 0 lists what the build paper lists
  pub full16 : (h : ℕ) → decode16_by (encodings_of (profile_of 0)) h ≡ decode16_of h
  pub full32 : (first second : ℕ) → decode32_by (encodings_of (profile_of 0)) first second ≡ decode32_of first second
  -- profile 1 lists neither cbz nor cbnz and nothing of 32 bits; the rest is unchanged
  pub small16 : (h : ℕ) → decode16_by (encodings_of (profile_of 1)) h ≡ cond (not (compares_and_branches (decode16_of h))) (decode16_of h) Unlisted
  pub small32 : (first second : ℕ) → decode32_by (encodings_of (profile_of 1)) first second ≡ Unlisted
  -- a bundle that isn't bad under it has the same successors under profile 0
  pub successors : (page : List ℕ) (set : ℕ)
      → SameUnlessBad (successors_of (program_of page (platform_of set 1))) (successors_of (program_of page (platform_of set 0)))
  -- and so of any two calls with one page and one set, the count under profile 1 is never larger than under profile 0
  pub count : (small full : CountCall) → count_page small ≡ count_page full
      → (set : ℕ) → count_platform small ≡ platform_of set 1 → count_platform full ≡ platform_of set 0
      → (seen_count small.answer).count ≤ (seen_count full.answer).count
  -- movw and return; cbz and cbnz to the next bundle, and return; cbnz behind a return; mov and return
  pub movw : both_counts (0xF240 ∷ 0x0000 ∷ 0x2001 ∷ 0xDF00 ∷ []) ≡ (2, 0)
  pub cbz : both_counts (0xB100 ∷ 0xDF00 ∷ 0x2001 ∷ 0xDF00 ∷ []) ≡ (2, 0)
  pub cbnz : both_counts (0xB900 ∷ 0xDF00 ∷ 0x2001 ∷ 0xDF00 ∷ []) ≡ (2, 0)
  pub behind : both_counts (0xDF00 ∷ 0xB900 ∷ []) ≡ (1, 0)
  pub alike : both_counts (0x2001 ∷ 0xDF00 ∷ []) ≡ (1, 1)
  -- the instruction too goes by the profile: its answer is the mark
  pub marked16 : (ram : List ℕ) → effect_in (0xB900 ∷ 0xDF00 ∷ []) ram ≡ unlisted
  pub marked32 : (ram : List ℕ) → effect_in (0xF240 ∷ 0x0000 ∷ []) ram ≡ unlisted
  -- under an unknown profile a step or a run is refused by 18, whatever else is wrong: steps 0, the given record, RAM untouched
  pub unknown : (setting : Setting) → is_known setting.program.profile ≡ false → (budget : ℕ) (r : Record) (ram : List ℕ)
      → run_of setting budget r ram ≡ record { stop = refused 18 []; steps = 0; rec = r; ram = ram }
