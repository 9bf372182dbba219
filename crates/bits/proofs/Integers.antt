-- Integers of fields, and their low 32 bits.
use mathlib.Core.Path.{◌≡◌}
use Prim.Native.Nat.{ℕ, ◌-◌, ◌/◌, ◌%◌, ◌^◌, ◌<◌}
use native.Mathlib.Nat.{lt_of_lt_of_le, mod-eq_of_lt, div-eq_of_lt}
use native.Mathlib.Omega.{arith}
use lib.Pow.{pow_mono}
use lib.IntN.{ℤ, pos, negsuc}
use Rattle.bits.specs.Integers.{SInt, low_word}

-- past 32 bits a word's top bit is clear
pub no_sign : (x n : ℕ) → x < 2 ^ 32 → 32 < n → pos x ≡ SInt n (x % 2 ^ n)
no_sign x n h l =
    let e : x % 2 ^ n ≡ x = mod-eq_of_lt (lt_of_lt_of_le h (pow_mono {i = 32} (omega arith))) in
    let z : x / 2 ^ (n - 1) ≡ 0 = div-eq_of_lt (lt_of_lt_of_le h (pow_mono {i = 32} (omega arith))) in
    rw (e, z)

pub low_lt : (z : ℤ) → low_word z < 2 ^ 32
low_lt (pos n) = omega arith
low_lt (negsuc n) = omega arith
