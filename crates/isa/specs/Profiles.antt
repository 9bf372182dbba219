-- Profiles: which of the listed encodings a host's processor has. The term and its numbers are those of the paper of requests, 02.
use Rattle.std.specs.Prelude.{ℕ, zero, suc, Bool, true, false, not, ◌&&◌, cond, List, [], ◌∷◌, eqb, length}
use Rattle.isa.specs.ListedEncodings.{Row, row, decode_by, listed16, listed32, word_of}
use Rattle.isa.specs.declared.Instruction.{Instruction}
use Rattle.isa.specs.declared.Instruction.TheVariants.{Data, Memory, Cbz, Cbnz, Bcc, B, Service, Unlisted}

-- ---- a set of listed encodings

-- which of the build paper's rows it has
abbrev pub Encodings : Type 0
Encodings = Row → Bool

-- those of a list
unfoldable pub rows_in : Encodings → List Row → List Row
rows_in encodings [] = []
rows_in encodings (r ∷ rows) = cond (encodings r) (r ∷ rows_in encodings rows) (rows_in encodings rows)

-- what a halfword stands for, and a pair of halfwords; what matches none of the set's rows is unlisted
abbrev pub decode16_by : Encodings → ℕ → Instruction
decode16_by encodings h = decode_by (rows_in encodings listed16) h

abbrev pub decode32_by : Encodings → ℕ → ℕ → Instruction
decode32_by encodings first second = decode_by (rows_in encodings listed32) (word_of first second)

-- ---- the profiles

-- the full one: the whole list
abbrev pub full : Encodings
full r = true

-- cbz and cbnz
abbrev pub compares_and_branches : Instruction → Bool
compares_and_branches (Data operation) = false
compares_and_branches (Memory access) = false
compares_and_branches (Cbz imm6 n) = true
compares_and_branches (Cbnz imm6 n) = true
compares_and_branches (Bcc condition imm8) = false
compares_and_branches (B imm11) = false
compares_and_branches (Service n) = false
compares_and_branches Unlisted = false

-- the small one, an ARMv6-M core: no 32-bit instruction of the list, no cbz or cbnz. A row stands for one kind of instruction, so
-- word 0 tells which
abbrev pub small : Encodings
small (row pattern means) = eqb (length pattern) 16 && not (compares_and_branches (means 0))

-- what a profile's number says: a set of listed encodings; or nothing, where there is no such profile
pub data Profile : Type 0 where
  lists : Encodings → Profile
  unknown : Profile

-- 0 full, 1 small
abbrev pub profile_of : ℕ → Profile
profile_of zero = lists full
profile_of (suc zero) = lists small
profile_of (suc (suc n)) = unknown

abbrev pub is_known : Profile → Bool
is_known (lists encodings) = true
is_known unknown = false

-- an unknown one lists nothing
abbrev pub encodings_of : Profile → Encodings
encodings_of (lists encodings) = encodings
encodings_of unknown = λ r. false
