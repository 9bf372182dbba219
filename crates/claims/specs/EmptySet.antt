-- With the empty set of syscalls that never return every answer of the build paper holds: what is claimed.
use Rattle.std.specs.Prelude.{ℕ, ◌+◌, ◌*◌, List, [], ◌∷◌, ◌≡◌, length}
use Rattle.page.specs.Page.{halfword_at}
use Rattle.window.specs.declared.Window.{Window}
use Rattle.platform.specs.Platforms.{platform_of, with_set}
use Rattle.platform.specs.Programs.{Program, program_of, decode16_in, setting_of}
use Rattle.platform.specs.declared.Platform.{Platform}
use Rattle.isa.specs.declared.Instruction.TheVariants as instruction
use Rattle.service.specs.Services.{service_of}
use Rattle.ending.specs.Endings.{ending_of, ending_on, ending_in}
use Rattle.literal.specs.declared.Service.{Service}
use Rattle.flow.specs.Flow.{ends_flow, terminator, service_jump, jump_of}
use Rattle.bundle.specs.Successors.{successors_of}
use Rattle.bundle.specs.Reader.{read_bundle}
use Rattle.count.specs.Count.{count_program}
use Rattle.state.specs.declared.Record.{Record}
use Rattle.effects.specs.ServiceEffects.{service_does}
use Rattle.place.specs.Places.{following}
use Rattle.instruction.specs.Fitness.{is_exit}
use Rattle.instruction.specs.Instructions.{exit_of, served_by, served, instruction_of}
use Rattle.machine.specs.Runs.{run_of}
use Rattle.claims.specs.Pages.{count_on}

-- ---- one page on one platform, with two sets

module _ (page : List ℕ) (platform : Platform) (a b : ℕ) where
  abbrev pub with_a : Program
  with_a = program_of page (with_set platform a)

  abbrev pub with_b : Program
  with_b = program_of page (with_set platform b)

  -- the halfword there, if it reads as a service, ends alike with both
  abbrev pub EndsAlike : ℕ → Type 0
  EndsAlike place = (n : ℕ) → decode16_in with_a (halfword_at page place) ≡ instruction.Service n → ending_in with_a n ≡ ending_in with_b n

  -- nothing but endings goes by the set
  pub record EndingsAlone : Type 0 where
    -- a bundle whose own halfwords end alike has the same successors, and is read the same
    pub successors : (k : ℕ) → EndsAlike (2 * k) → EndsAlike (2 * k + 1) → successors_of with_a k ≡ successors_of with_b k
    pub read : (k : ℕ) → EndsAlike (2 * k) → EndsAlike (2 * k + 1) → read_bundle with_a k ≡ read_bundle with_b k
    -- an instruction that ends alike does the same
    pub instructions : (external : List ℕ) (window : Window) (r : Record) (ram : List ℕ) → EndsAlike r.place
        → instruction_of (setting_of with_a external window) r ram ≡ instruction_of (setting_of with_b external window) r ram
    -- where all of the page ends alike, count and runs are the same
    pub counted : ((place : ℕ) → EndsAlike place) → count_program with_a ≡ count_program with_b
    pub ran : ((place : ℕ) → EndsAlike place) → (external : List ℕ) (window : Window) (budget : ℕ) (r : Record) (ram : List ℕ)
        → run_of (setting_of with_a external window) budget r ram ≡ run_of (setting_of with_b external window) budget r ram

-- ---- the empty set

abbrev pub empty_in : List ℕ → Platform → Program
empty_in page platform = program_of page (with_set platform 0)

-- the count of BF00 DF80
abbrev pub abort_count : ℕ → ℕ
abort_count set = count_on (platform_of set 0) (0xBF00 ∷ 0xDF80 ∷ [])

pub record EmptySet : Type 0 where
  -- every service ends as the build paper's table says
  pub endings : (s : Service) → ending_on 0 s ≡ ending_of s
  -- and so the definitions that read an ending are the build paper's: terminators, jumps, services, and the exits of demand 3
  pub terminators : (page : List ℕ) (platform : Platform) (n : ℕ)
      → terminator (empty_in page platform) (instruction.Service n) ≡ ends_flow (ending_of (service_of page n))
  pub jumps : (page : List ℕ) (platform : Platform) (place n : ℕ)
      → jump_of (empty_in page platform) place (instruction.Service n) ≡ service_jump (ending_of (service_of page n))
  pub services : (page : List ℕ) (platform : Platform) (external : List ℕ) (window : Window) (r : Record) (ram : List ℕ) (n : ℕ)
      → served (setting_of (empty_in page platform) external window) r ram n
      ≡ served_by (ending_of (service_of page n)) (exit_of page n) r (following page r.place)
      (service_does (length external) window (service_of page n) r ram)
  pub exits : (page : List ℕ) (platform : Platform) (n : ℕ) → is_exit (ending_in (empty_in page platform) n) ≡ is_exit (ending_of (service_of page n))
  -- no other definition looks at the set
  pub elsewhere : (page : List ℕ) (platform : Platform) (a b : ℕ) → EndingsAlone page platform a b
  -- with bit 0, and without it
  pub never_returns : abort_count 1 ≡ 1
  pub returns : abort_count 0 ≡ 0
