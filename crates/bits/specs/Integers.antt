-- Bits read as integers, and an integer's low bits.
use Rattle.std.specs.Prelude.{ℕ, ◌-◌, ◌%◌, ◌^◌, cond, ℤ, pos, negsuc, ◌-ℤ◌}
use Rattle.bits.specs.Fields.{bit}

-- SInt(x) of n bits: x, less 2 ^ n if the top bit is set
abbrev pub SInt : ℕ → ℕ → ℤ
SInt n x = cond (bit x (n - 1)) (pos x -ℤ pos (2 ^ n)) (pos x)

-- z<31:0>: z mod 2 ^ 32, where negsuc n is -(n + 1)
abbrev pub low_word : ℤ → ℕ
low_word (pos n) = n % 2 ^ 32
low_word (negsuc n) = 2 ^ 32 - 1 - n % 2 ^ 32
