-- Multiplication and division. Division by zero gives 0; quotients are rounded toward zero.
use Rattle.std.specs.Prelude.{ℕ, ◌*◌, ◌/◌, ◌%◌, ◌^◌, cond, eqb}
use Rattle.std.specs.Int.Signed.{quot_z}
use Rattle.bits.specs.Integers.{SInt, low_word}

abbrev pub product : ℕ → ℕ → ℕ
product x y = x * y % 2 ^ 32

abbrev pub unsigned_quotient : ℕ → ℕ → ℕ
unsigned_quotient x y = cond (eqb y 0) 0 (x / y)

-- -2 ^ 31 by -1 is 2 ^ 31, whose low 32 bits are -2 ^ 31 again
abbrev pub signed_quotient : ℕ → ℕ → ℕ
signed_quotient x y = cond (eqb y 0) 0 (low_word (quot_z (SInt 32 x) (SInt 32 y)))
