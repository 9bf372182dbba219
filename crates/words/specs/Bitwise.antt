-- NOT and SignExtend. AND, ORR and EOR are the library's bit_and, bit_or and bit_xor.
use Rattle.std.specs.Prelude.{ℕ, ◌-◌, ◌^◌}
use Rattle.bits.specs.Integers.{SInt, low_word}

-- NOT(x)
abbrev pub not_word : ℕ → ℕ
not_word x = 2 ^ 32 - 1 - x

-- SignExtend(x, 32), x of n bits
abbrev pub sign_extended : ℕ → ℕ → ℕ
sign_extended n x = low_word (SInt n x)
