-- AddWithCarry. A word is a natural number below 2 ^ 32, so that UInt(x) is x.
use Rattle.std.specs.Prelude.{ℕ, ◌+◌, ◌%◌, ◌^◌, Bool, true, false, not, eqb, ℤ, pos, negsuc, ◌+ℤ◌}
use Rattle.bits.specs.Integers.{SInt}
use Rattle.arm.specs.declared.Sum.{Sum}

-- UInt of one bit
abbrev pub UInt : Bool → ℕ
UInt true = 1
UInt false = 0

-- the test of two integers
abbrev pub eq_z : ℤ → ℤ → Bool
eq_z (pos a) (pos b) = eqb a b
eq_z (pos a) (negsuc b) = false
eq_z (negsuc a) (pos b) = false
eq_z (negsuc a) (negsuc b) = eqb a b

abbrev pub unsigned_sum : ℕ → ℕ → Bool → ℕ
unsigned_sum x y carry = x + y + UInt carry

abbrev pub signed_sum : ℕ → ℕ → Bool → ℤ
signed_sum x y carry = SInt 32 x +ℤ SInt 32 y +ℤ pos (UInt carry)

abbrev pub result : ℕ → ℕ → Bool → ℕ
result x y carry = unsigned_sum x y carry % 2 ^ 32

-- carry and overflow: the result is not the unsigned sum, and not the signed one
abbrev pub add_with_carry : ℕ → ℕ → Bool → Sum
add_with_carry x y carry = record {
  value = result x y carry;
  carry = not (eqb (result x y carry) (unsigned_sum x y carry));
  overflow = not (eq_z (SInt 32 (result x y carry)) (signed_sum x y carry));
}
