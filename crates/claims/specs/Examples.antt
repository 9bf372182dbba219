-- The build paper's starred examples, together under one claim.
use Rattle.std.specs.Prelude.{ℕ, ◌≡◌, true, false, List, [], ◌∷◌, pos}
use Rattle.bits.specs.Integers.{SInt}
use Rattle.isa.specs.declared.Instruction.TheVariants.{B}
use Rattle.branch.specs.Branches.{target_byte}
use Rattle.window.specs.Windows.{whole_ram}
use Rattle.platform.specs.Platforms.{default_platform}
use Rattle.platform.specs.Programs.{Setting, default_program, setting_of}
use Rattle.state.specs.Record.{fresh_record, with_register, with_flags, with_place}
use Rattle.state.specs.declared.Record.{Record}
use Rattle.plain.specs.PlainMachine.{goes_on}
use Rattle.place.specs.Places.{instruction_at}
use Rattle.instruction.specs.Instructions.{instruction_of}
use Rattle.claims.specs.Pages.{page_of, count_on}

-- counts where all direct syscalls return, in the full profile
abbrev pub counts : List ℕ → ℕ
counts = count_on default_platform

-- 2801 DB01: cmp r0, #1 and blt to bundle 2
abbrev pub compare_page : List ℕ
compare_page = page_of (0x2801 ∷ 0xDB01 ∷ 0xDF00 ∷ 0xBF00 ∷ 0xDF00 ∷ 0xBF00 ∷ [])

-- without external data, and with all of RAM
abbrev pub comparing : Setting
comparing = setting_of (default_program compare_page) [] whole_ram

-- r0 = 0x80000000; after the compare; after the branch
abbrev pub compared : Record
compared = with_register fresh_record 0 0x80000000

abbrev pub flags_set : Record
flags_set = with_place (with_flags compared (record { n = false; z = false; c = true; v = true })) 1

abbrev pub branched : Record
branched = with_place flags_set 4

pub record Starred : Type 0 where
  pub empty : counts [] ≡ 0
  pub returns : counts (0x2001 ∷ 0xDF00 ∷ []) ≡ 1
  pub falls_off : counts (0x2001 ∷ 0xBF00 ∷ []) ≡ 0
  pub loops : counts (0xE7FE ∷ 0xBF00 ∷ []) ≡ 1
  -- E7FE stands at place 1, a branch by 7FE; its target is byte 2, which is no bundle's first
  pub into_a_bundle : counts (0xBF00 ∷ 0xE7FE ∷ []) ≡ 0
  pub branches : instruction_at (default_program (page_of (0xBF00 ∷ 0xE7FE ∷ []))) 1 ≡ B 0x7FE
  pub target_2 : target_byte 1 (SInt 11 0x7FE) ≡ pos 2
  pub back_from_second : counts (0xBF00 ∷ 0xE7FD ∷ []) ≡ 1
  pub before_page : counts (0xE7FC ∷ 0xBF00 ∷ []) ≡ 0
  pub over_a_bad_bundle : counts (0xE000 ∷ 0xBF00 ∷ 0x2001 ∷ 0xBF00 ∷ 0xDE00 ∷ 0xDE00 ∷ []) ≡ 0
  pub store_by_r9 : counts (0xF8C9 ∷ 0x0000 ∷ 0x2001 ∷ 0xDF00 ∷ []) ≡ 2
  pub store_by_r8 : counts (0xF8C8 ∷ 0x0000 ∷ 0x2001 ∷ 0xDF00 ∷ []) ≡ 0
  pub tail_call : counts (0xBF00 ∷ 0xDF01 ∷ 0x0001 ∷ 0x0000 ∷ []) ≡ 1
  -- cmp of 0x80000000 with 1: N0 Z0 C1 V1; BLT taken
  pub compare : (ram : List ℕ) → instruction_of comparing compared ram ≡ goes_on flags_set ram
  pub blt_taken : (ram : List ℕ) → instruction_of comparing flags_set ram ≡ goes_on branched ram
