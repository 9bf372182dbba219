-- Shifts with carry out, for any amount. An amount of 0 keeps the word and the carry.
use Rattle.std.specs.Prelude.{ℕ, ◌-◌, ◌*◌, ◌/◌, ◌%◌, ◌^◌, Bool, cond, eqb, ℤ, pos, negsuc}
use Rattle.std.specs.Int.Bits.{bit_or}
use Rattle.std.specs.Int.Signed.{shr_z}
use Rattle.bits.specs.Fields.{bit}
use Rattle.bits.specs.Integers.{SInt, low_word}
use Rattle.words.specs.declared.Shifted.{Shifted}

abbrev pub unless_zero : ℕ → ℕ → Bool → Shifted → Shifted
unless_zero x n carry s = cond (eqb n 0) (record { value = x; carry = carry }) s

-- the last bit out is bit 32 of the extended word
abbrev pub lsl_c : ℕ → ℕ → Bool → Shifted
lsl_c x n carry = unless_zero x n carry (record { value = x * 2 ^ n % 2 ^ 32; carry = bit (x * 2 ^ n) 32 })

abbrev pub lsr_c : ℕ → ℕ → Bool → Shifted
lsr_c x n carry = unless_zero x n carry (record { value = x / 2 ^ n; carry = bit x (n - 1) })

-- z<0>, of an integer in two's complement: -(a + 1) is odd if a is even
abbrev pub odd : ℤ → Bool
odd (pos a) = eqb (a % 2) 1
odd (negsuc a) = eqb (a % 2) 0

-- SInt(x) is the word with its sign extended without end; shr_z divides by a power of 2 and rounds down
abbrev pub asr_c : ℕ → ℕ → Bool → Shifted
asr_c x n carry =
    unless_zero x n carry
    (record { value = low_word (shr_z (SInt 32 x) (2 ^ n)); carry = odd (shr_z (SInt 32 x) (2 ^ (n - 1))) })

-- LSR(x, m) OR LSL(x, 32 - m), with m = n MOD 32
abbrev pub rotated : ℕ → ℕ → ℕ
rotated x n = bit_or (x / 2 ^ (n % 32)) (x * 2 ^ (32 - n % 32) % 2 ^ 32)

abbrev pub ror_c : ℕ → ℕ → Bool → Shifted
ror_c x n carry = unless_zero x n carry (record { value = rotated x n; carry = bit (rotated x n) 31 })

-- DecodeImmShift of LSR and ASR: 0 means 32
abbrev pub immediate_amount : ℕ → ℕ
immediate_amount imm5 = cond (eqb imm5 0) 32 imm5
