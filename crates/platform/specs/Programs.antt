-- Programs, which counts and successors are read from, and settings, which runs get beside budget, record and RAM.
use Rattle.std.specs.Prelude.{ℕ, not, List, [], ◌∷◌}
use Rattle.refusal.specs.Refusals.{Rule, rule}
use Rattle.page.specs.Page.{page_rule}
use Rattle.isa.specs.Profiles.{Encodings, Profile, profile_of, is_known, encodings_of, decode16_by, decode32_by}
use Rattle.isa.specs.declared.Instruction.{Instruction}
use Rattle.platform.specs.Platforms.{default_platform}
use Rattle.window.specs.declared.Window.{Window}
use Rattle.platform.specs.declared.Platform.{Platform}
use Rattle.platform.specs.declared.Program as declared
use Rattle.platform.specs.declared.Setting as declared_setting

-- a page, the set of direct syscalls that never return, and a profile: not its number but what it lists, so that whatever is said of
-- programs is said of any set of listed encodings
pub record Program : Type 0 where
  pub page : List ℕ
  pub never_return : ℕ
  pub profile : Profile

-- a page on a platform
abbrev pub program_of : List ℕ → Platform → Program
program_of page platform = record { page = page; never_return = platform.never_return; profile = profile_of platform.profile }

-- on the default platform
abbrev pub default_program : List ℕ → Program
default_program page = program_of page default_platform

-- the same with another page
abbrev pub with_page : Program → List ℕ → Program
with_page program page = record { page = page; never_return = program.never_return; profile = program.profile }

-- the encodings that it lists
abbrev pub encodings_in : Program → Encodings
encodings_in program = encodings_of program.profile

-- what a halfword stands for in it, and a pair of halfwords
abbrev pub decode16_in : Program → ℕ → Instruction
decode16_in program h = decode16_by (encodings_in program) h

abbrev pub decode32_in : Program → ℕ → ℕ → Instruction
decode32_in program first second = decode32_by (encodings_in program) first second

-- refusal 18
abbrev pub profile_rule : Profile → Rule
profile_rule profile = rule (not (is_known profile)) 18 []

-- 18, then 1: what every call that takes a page and a platform tests first
abbrev pub program_rules : Program → List Rule
program_rules program = profile_rule program.profile ∷ page_rule program.page ∷ []

-- a program, the external data and the window of RAM
pub record Setting : Type 0 where
  pub program : Program
  pub external : List ℕ
  pub window : Window

abbrev pub setting_of : Program → List ℕ → Window → Setting
setting_of program external window = record { program = program; external = external; window = window }

-- ---- the code's own

abbrev pub seen_program : declared.Program → Program
seen_program p = program_of p.page.now p.platform

abbrev pub seen_setting : declared_setting.Setting → Setting
seen_setting s = setting_of (seen_program s.program) s.external.now s.window
