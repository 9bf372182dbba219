-- The definition of an instruction reads the page at the place: two pages of one length that agree in the place's bundle, and in the
-- literal that the instruction there names, give the same effect with one set and one profile, whatever their other bundles and
-- so their counts are.
use Prim.Native.Nat.{ℕ, ◌+◌, ◌/◌}
use mathlib.Core.List.{List}
use mathlib.Core.Path.{◌≡◌, refl, ap, ◌∙◌}
use Rattle.page.specs.Page.{bundles_in, word_at}
use Rattle.platform.specs.Programs.{Program, with_page, setting_of}
use Rattle.isa.specs.declared.Access.{Access}
use Rattle.isa.specs.declared.Access.TheVariants.{LdrLit, StrSp, LdrSp, Str, Strb, Strh, Ldr, Ldrb, Ldrh, Ldrsb, Ldrsh}
use Rattle.isa.specs.declared.Instruction.{Instruction}
use Rattle.isa.specs.declared.Instruction.TheVariants.{Data, Memory, Cbz, Cbnz, Bcc, B, Service, Unlisted}
use Rattle.service.specs.Services.{service_of, literal_service}
use Rattle.window.specs.declared.Window.{Window}
use Rattle.state.specs.declared.Record.{Record}
use Rattle.access.specs.LoadsAndStores.{literal_loaded, accessed}
use Rattle.place.specs.Places.{instruction_at, following}
use Rattle.instruction.specs.Instructions.{exit_of, served, effect_of, instruction_of}
use Rattle.instruction.specs.AtPlace.{AccessNames, Names, Agree}

module _ (program : Program) (other external : List ℕ) (window : Window) (r : Record) (ram : List ℕ) (same : bundles_in program.page ≡ bundles_in other) where
  abbrev page : List ℕ
  page = program.page

  access_same : (a : Access) → ((k : ℕ) → AccessNames r.place a k → word_at page k ≡ word_at other k)
      → accessed page external window a r ram ≡ accessed other external window a r ram
  unfolding accessed literal_loaded
  access_same (LdrLit t imm8) w = rw (same, w (r.place / 2 + 1 + imm8) refl)
  access_same (StrSp t imm8) w = refl
  access_same (LdrSp t imm8) w = refl
  access_same (Str t imm12) w = refl
  access_same (Strb t imm12) w = refl
  access_same (Strh t imm12) w = refl
  access_same (Ldr n t imm12) w = refl
  access_same (Ldrb n t imm12) w = refl
  access_same (Ldrh n t imm12) w = refl
  access_same (Ldrsb n t imm12) w = refl
  access_same (Ldrsh n t imm12) w = refl

  service_same : (n : ℕ) → word_at page n ≡ word_at other n → service_of page n ≡ service_of other n
  unfolding service_of literal_service
  service_same n w = rw (same, w)

  exit_same : (n : ℕ) → word_at page n ≡ word_at other n → exit_of page n ≡ exit_of other n
  unfolding exit_of
  exit_same n w = rw w

  effect_same : following page r.place ≡ following other r.place
      → (i : Instruction) → ((k : ℕ) → Names r.place i k → word_at page k ≡ word_at other k)
      → effect_of (setting_of program external window) r ram i ≡ effect_of (setting_of (with_page program other) external window) r ram i
  unfolding effect_of served
  effect_same f (Data operation) w = rw f
  effect_same f (Memory a) w = rw (f, access_same a w)
  effect_same f (Cbz imm6 n) w = rw f
  effect_same f (Cbnz imm6 n) w = rw f
  effect_same f (Bcc condition imm8) w = rw f
  effect_same f (B imm11) w = refl
  effect_same f (Service n) w = rw (f, service_same n (w n refl), exit_same n (w n refl))
  effect_same f Unlisted w = refl

pub reads_at_place : (program : Program) (other external : List ℕ) (window : Window) (r : Record) (ram : List ℕ) → Agree program other r.place
    → instruction_of (setting_of program external window) r ram ≡ instruction_of (setting_of (with_page program other) external window) r ram
unfolding instruction_of instruction_at following
reads_at_place program other external window r ram a =
    effect_same program other external window r ram a.bundles behind (instruction_at program r.place) a.literal
    ∙ ap (effect_of (setting_of (with_page program other) external window) r ram) stands
  where
    behind : following program.page r.place ≡ following other r.place
    behind = rw a.first

    stands : instruction_at program r.place ≡ instruction_at (with_page program other) r.place
    stands = rw (a.bundles, a.first, a.second)
