-- Shifts that take every bit, and the last bit out of an integer.
use mathlib.Core.Path.{◌≡◌, sym, ap, ◌∙◌}
use Prim.Native.Nat.{ℕ, min, ◌+◌, ◌-◌, ◌*◌, ◌/◌, ◌%◌, ◌^◌, ◌≤◌, ◌<◌}
use native.Mathlib.Decide.{dec_lt}
use native.Mathlib.Nat.{div-eq_of_lt, lt_of_lt_of_le, mul_assoc}
use native.Mathlib.Omega.{arith}
use lib.IntN.{ℤ, pos, negsuc}
use lib.Pow.{pow_mono, pow-add}
use lib.Signed.{mag, shr_z}
use mir.Syntax.{w64}
use mir.Val.{to_z, of_z}
use Rattle.laws.proofs.Integers.{read}

-- right, past a number's k bits
pub gone : (k x n : ℕ) → x < 2 ^ k → k ≤ n → x / 2 ^ n ≡ 0
gone k x n h l = div-eq_of_lt (lt_of_lt_of_le h (pow_mono l))

-- left, past bit 32
pub past_32 : (x n : ℕ) → 32 < n → (x * 2 ^ n % 2 ^ 32 ≡ 0) × (x * 2 ^ n / 2 ^ 32 % 2 ≡ 0)
past_32 x n h =
    let i : n ≡ n - 33 + 33 = omega arith in
    let e : x * 2 ^ n ≡ x * 2 ^ (n - 33) * 2 ^ 33 =
    ap (λ (m : ℕ). x * m) (ap (λ (m : ℕ). 2 ^ m) i ∙ pow-add 2 (n - 33) 33) ∙ sym (mul_assoc x (2 ^ (n - 33)) (2 ^ 33)) in
    rw e (omega arith, omega arith)

-- of an integer all that is left is its sign
signs : (z : ℤ) (j k : ℕ) → mag z < 2 ^ 31 → 31 ≤ j → 31 ≤ k → shr_z z (2 ^ j) ≡ shr_z z (2 ^ k)
signs (pos a) j k h p q = ap pos (gone 31 a j h p ∙ sym (gone 31 a k h q))
signs (negsuc a) j k h p q = ap negsuc (gone 31 a j h p ∙ sym (gone 31 a k h q))

-- so that m places are as good as more
at_most : (z : ℤ) (n m : ℕ) → mag z < 2 ^ 31 → 31 ≤ m → shr_z z (2 ^ min n m) ≡ shr_z z (2 ^ n)
at_most z n m h l = elim (dec_lt n m) [
  | yes k ↦ ap (λ (i : ℕ). shr_z z (2 ^ i)) (omega arith)
  | no k ↦ signs z (min n m) n h (omega arith) (omega arith)
]

-- as the next operation reads the result r of the shift of y, which is z, by at most m places
pub shifted_lem : {r y z : ℤ} {k : ℕ} (n m : ℕ) → mag r < 2 ^ 63 → r ≡ shr_z y (2 ^ k)
    → y ≡ z → mag z < 2 ^ 31 → k ≡ min n m → 31 ≤ m → to_z w64 (of_z w64 r) ≡ shr_z z (2 ^ n)
shifted_lem {r} {z = z} n m ok e i h j l = read r ok ∙ e ∙ rw (i, j) (at_most z n m h l)

-- one place less
pub one_less : {k : ℕ} (n : ℕ) → k ≡ min n 32 → k - 1 ≡ min (n - 1) 31
one_less n e = omega arith
