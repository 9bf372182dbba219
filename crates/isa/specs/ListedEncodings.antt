-- The listed encodings: a row for each, its pattern and what it stands for. What matches no row is unlisted.
use Rattle.std.specs.Prelude.{ℕ, ◌+◌, ◌*◌, ◌^◌, Bool, ◌||◌, cond, List, [], ◌∷◌, ◌++◌}
use Rattle.bits.specs.Fields.{bits}
use Rattle.isa.specs.Patterns.{Bit, O, I, x, byte, matches}
use Rattle.isa.specs.declared.Instruction.{Instruction}
use Rattle.isa.specs.declared.Instruction.TheVariants.{Data, Memory, Cbz, Cbnz, Bcc, B, Service, Unlisted}
use Rattle.isa.specs.declared.Access.{Access}
use Rattle.isa.specs.declared.Access.TheVariants.{LdrLit, StrSp, LdrSp, Str, Strb, Strh, Ldr, Ldrb, Ldrh, Ldrsb, Ldrsh}
use Rattle.isa.specs.declared.Operation.{Operation}
use Rattle.isa.specs.declared.Operation.TheVariants.{LslImm, LsrImm, AsrImm, AddReg, SubReg, AddImm3, SubImm3, MovImm, CmpImm, AddImm, SubImm, And, Eor, LslReg, LsrReg, AsrReg, Adc, Sbc, RorReg, Tst, Rsb, CmpReg, Cmn, Orr, Mul, Bic, Mvn, MovReg, AddSp, Sxth, Sxtb, Uxth, Uxtb, Nop, Movw, Movt, Sdiv, Udiv}

-- a halfword whose top five bits are 11101, 11110 or 11111 opens a 32-bit instruction
unfoldable pub opens32 : ℕ → Bool
opens32 h =
    matches (I ∷ I ∷ I ∷ O ∷ I ∷ []) (bits h 15 11)
    || matches (I ∷ I ∷ I ∷ I ∷ O ∷ []) (bits h 15 11)
    || matches (I ∷ I ∷ I ∷ I ∷ I ∷ []) (bits h 15 11)

-- i:imm5 of cbz and cbnz
abbrev pub imm6_of : ℕ → ℕ
imm6_of h = bits h 9 9 * 2 ^ 5 + bits h 7 3

-- a 32-bit instruction as one word: the first halfword is the upper
abbrev pub word_of : ℕ → ℕ → ℕ
word_of first second = first * 2 ^ 16 + second

-- imm4:i:imm3:imm8 of movw and movt
abbrev pub imm16_of : ℕ → ℕ
imm16_of w = bits w 19 16 * 2 ^ 12 + bits w 26 26 * 2 ^ 11 + bits w 14 12 * 2 ^ 8 + bits w 7 0

pub data Row : Type 0 where
  row : List Bit → (ℕ → Instruction) → Row

-- what the first row that w matches stands for
unfoldable pub decode_by : List Row → ℕ → Instruction
decode_by [] w = Unlisted
decode_by (row p m ∷ rows) w = cond (matches p w) (m w) (decode_by rows w)

-- ---- 16 bits

-- three operands in bits 10-6 or 8-6, 5-3 and 2-0; two in bits 10-8 and 7-0; two in bits 5-3 and 2-0
abbrev pub imm5_m_d : (ℕ → ℕ → ℕ → Operation) → ℕ → Instruction
imm5_m_d op h = Data (op (bits h 10 6) (bits h 5 3) (bits h 2 0))

abbrev pub m_n_d : (ℕ → ℕ → ℕ → Operation) → ℕ → Instruction
m_n_d op h = Data (op (bits h 8 6) (bits h 5 3) (bits h 2 0))

abbrev pub d_imm8 : (ℕ → ℕ → Operation) → ℕ → Instruction
d_imm8 op h = Data (op (bits h 10 8) (bits h 7 0))

abbrev pub t_imm8 : (ℕ → ℕ → Access) → ℕ → Instruction
t_imm8 op h = Memory (op (bits h 10 8) (bits h 7 0))

abbrev pub m_d : (ℕ → ℕ → Operation) → ℕ → Instruction
m_d op h = Data (op (bits h 5 3) (bits h 2 0))

-- 00xxxxxx, 010000xx, and so on: a list for each line of the paper that the top byte sets apart
abbrev pub lines16 : List (List Row)
lines16 =
    (row (byte O O O O O x x x (byte x x x x x x x x [])) (imm5_m_d LslImm) ∷ [])
    ∷ (row (byte O O O O I x x x (byte x x x x x x x x [])) (imm5_m_d LsrImm) ∷ [])
    ∷ (row (byte O O O I O x x x (byte x x x x x x x x [])) (imm5_m_d AsrImm) ∷ [])
    ∷ (row (byte O O O I I O O x (byte x x x x x x x x [])) (m_n_d AddReg) ∷ [])
    ∷ (row (byte O O O I I O I x (byte x x x x x x x x [])) (m_n_d SubReg) ∷ [])
    ∷ (row (byte O O O I I I O x (byte x x x x x x x x [])) (m_n_d AddImm3) ∷ [])
    ∷ (row (byte O O O I I I I x (byte x x x x x x x x [])) (m_n_d SubImm3) ∷ [])
    ∷ (row (byte O O I O O x x x (byte x x x x x x x x [])) (d_imm8 MovImm) ∷ [])
    ∷ (row (byte O O I O I x x x (byte x x x x x x x x [])) (d_imm8 CmpImm) ∷ [])
    ∷ (row (byte O O I I O x x x (byte x x x x x x x x [])) (d_imm8 AddImm) ∷ [])
    ∷ (row (byte O O I I I x x x (byte x x x x x x x x [])) (d_imm8 SubImm) ∷ [])
    ∷ (row (byte O I O O O O O O (byte O O x x x x x x [])) (m_d And)
    ∷ row (byte O I O O O O O O (byte O I x x x x x x [])) (m_d Eor)
    ∷ row (byte O I O O O O O O (byte I O x x x x x x [])) (m_d LslReg)
    ∷ row (byte O I O O O O O O (byte I I x x x x x x [])) (m_d LsrReg)
    ∷ row (byte O I O O O O O I (byte O O x x x x x x [])) (m_d AsrReg)
    ∷ row (byte O I O O O O O I (byte O I x x x x x x [])) (m_d Adc)
    ∷ row (byte O I O O O O O I (byte I O x x x x x x [])) (m_d Sbc)
    ∷ row (byte O I O O O O O I (byte I I x x x x x x [])) (m_d RorReg)
    ∷ row (byte O I O O O O I O (byte O O x x x x x x [])) (m_d Tst)
    ∷ row (byte O I O O O O I O (byte O I x x x x x x [])) (m_d Rsb)
    ∷ row (byte O I O O O O I O (byte I O x x x x x x [])) (m_d CmpReg)
    ∷ row (byte O I O O O O I O (byte I I x x x x x x [])) (m_d Cmn)
    ∷ row (byte O I O O O O I I (byte O O x x x x x x [])) (m_d Orr)
    ∷ row (byte O I O O O O I I (byte O I x x x x x x [])) (m_d Mul)
    ∷ row (byte O I O O O O I I (byte I O x x x x x x [])) (m_d Bic)
    ∷ row (byte O I O O O O I I (byte I I x x x x x x [])) (m_d Mvn)
    ∷ [])
    ∷ (row (byte O I O O O I I O (byte O O x x x x x x [])) (m_d MovReg) ∷ [])
    ∷ (row (byte O I O O I x x x (byte x x x x x x x x [])) (t_imm8 LdrLit) ∷ [])
    ∷ (row (byte I O O I O x x x (byte x x x x x x x x [])) (t_imm8 StrSp) ∷ [])
    ∷ (row (byte I O O I I x x x (byte x x x x x x x x [])) (t_imm8 LdrSp) ∷ [])
    ∷ (row (byte I O I O I x x x (byte x x x x x x x x [])) (d_imm8 AddSp) ∷ [])
    ∷ (row (byte I O I I O O I O (byte O O x x x x x x [])) (m_d Sxth)
    ∷ row (byte I O I I O O I O (byte O I x x x x x x [])) (m_d Sxtb)
    ∷ row (byte I O I I O O I O (byte I O x x x x x x [])) (m_d Uxth)
    ∷ row (byte I O I I O O I O (byte I I x x x x x x [])) (m_d Uxtb)
    ∷ [])
    ∷ (row (byte I O I I I I I I (byte O O O O O O O O [])) (λ h. Data Nop) ∷ [])
    ∷ (row (byte I O I I O O x I (byte x x x x x x x x [])) (λ h. Cbz (imm6_of h) (bits h 2 0)) ∷ [])
    ∷ (row (byte I O I I I O x I (byte x x x x x x x x [])) (λ h. Cbnz (imm6_of h) (bits h 2 0)) ∷ [])
    -- 1101cccc with cccc 0 to 7, 8 to 11, 12 and 13
    ∷ (row (byte I I O I O x x x (byte x x x x x x x x [])) (λ h. Bcc (bits h 11 8) (bits h 7 0))
    ∷ row (byte I I O I I O x x (byte x x x x x x x x [])) (λ h. Bcc (bits h 11 8) (bits h 7 0))
    ∷ row (byte I I O I I I O x (byte x x x x x x x x [])) (λ h. Bcc (bits h 11 8) (bits h 7 0))
    ∷ [])
    ∷ (row (byte I I I O O x x x (byte x x x x x x x x [])) (λ h. B (bits h 10 0)) ∷ [])
    -- DF with 00 and 01-7F, 80-BF, C0-DF, E0-E7, E8, F0-F7, F8-FF
    ∷ (row (byte I I O I I I I I (byte O x x x x x x x [])) (λ h. Service (bits h 7 0))
    ∷ row (byte I I O I I I I I (byte I O x x x x x x [])) (λ h. Service (bits h 7 0))
    ∷ row (byte I I O I I I I I (byte I I O x x x x x [])) (λ h. Service (bits h 7 0))
    ∷ row (byte I I O I I I I I (byte I I I O O x x x [])) (λ h. Service (bits h 7 0))
    ∷ row (byte I I O I I I I I (byte I I I O I O O O [])) (λ h. Service (bits h 7 0))
    ∷ row (byte I I O I I I I I (byte I I I I O x x x [])) (λ h. Service (bits h 7 0))
    ∷ row (byte I I O I I I I I (byte I I I I I x x x [])) (λ h. Service (bits h 7 0))
    ∷ [])
    ∷ []

abbrev pub join_lines : List (List Row) → List Row
join_lines [] = []
join_lines (rows ∷ lines) = rows ++ join_lines lines

abbrev pub listed16 : List Row
listed16 = join_lines lines16

abbrev pub decode16_of : ℕ → Instruction
decode16_of h = decode_by listed16 h

-- ---- 32 bits: the first halfword, then the second

abbrev pub t_imm12 : (ℕ → ℕ → Access) → ℕ → Instruction
t_imm12 op w = Memory (op (bits w 14 12) (bits w 11 0))

abbrev pub n_t_imm12 : (ℕ → ℕ → ℕ → Access) → ℕ → Instruction
n_t_imm12 op w = Memory (op (bits w 19 16) (bits w 14 12) (bits w 11 0))

abbrev pub imm16_d : (ℕ → ℕ → Operation) → ℕ → Instruction
imm16_d op w = Data (op (imm16_of w) (bits w 10 8))

abbrev pub n_d_m : (ℕ → ℕ → ℕ → Operation) → ℕ → Instruction
n_d_m op w = Data (op (bits w 18 16) (bits w 10 8) (bits w 2 0))

-- movw, movt, sdiv, udiv
abbrev pub arithmetic32 : List Row
arithmetic32 =
    row (byte I I I I O x I O (byte O I O O x x x x (byte O x x x O x x x (byte x x x x x x x x [])))) (imm16_d Movw)
    ∷ row (byte I I I I O x I O (byte I I O O x x x x (byte O x x x O x x x (byte x x x x x x x x [])))) (imm16_d Movt)
    ∷ row (byte I I I I I O I I (byte I O O I O x x x (byte I I I I O x x x (byte I I I I O x x x [])))) (n_d_m Sdiv)
    ∷ row (byte I I I I I O I I (byte I O I I O x x x (byte I I I I O x x x (byte I I I I O x x x [])))) (n_d_m Udiv)
    ∷ []

abbrev pub listed32 : List Row
listed32 =
    row (byte I I I I I O O O (byte I I O O I O O I (byte O x x x x x x x (byte x x x x x x x x [])))) (t_imm12 Str)
    ∷ row (byte I I I I I O O O (byte I O O O I O O I (byte O x x x x x x x (byte x x x x x x x x [])))) (t_imm12 Strb)
    ∷ row (byte I I I I I O O O (byte I O I O I O O I (byte O x x x x x x x (byte x x x x x x x x [])))) (t_imm12 Strh)
    ∷ row (byte I I I I I O O O (byte I I O I I O O x (byte O x x x x x x x (byte x x x x x x x x [])))) (n_t_imm12 Ldr)
    ∷ row (byte I I I I I O O O (byte I O O I I O O x (byte O x x x x x x x (byte x x x x x x x x [])))) (n_t_imm12 Ldrb)
    ∷ row (byte I I I I I O O O (byte I O I I I O O x (byte O x x x x x x x (byte x x x x x x x x [])))) (n_t_imm12 Ldrh)
    ∷ row (byte I I I I I O O I (byte I O O I I O O x (byte O x x x x x x x (byte x x x x x x x x [])))) (n_t_imm12 Ldrsb)
    ∷ row (byte I I I I I O O I (byte I O I I I O O x (byte O x x x x x x x (byte x x x x x x x x [])))) (n_t_imm12 Ldrsh)
    ∷ arithmetic32

abbrev pub decode32_of : ℕ → ℕ → Instruction
decode32_of first second = decode_by listed32 (word_of first second)
