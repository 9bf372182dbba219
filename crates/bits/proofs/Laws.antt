-- A field is a shift and a mask; fields are joined by a shift and an or. Once, over the position and the width.
use mathlib.Core.Path.{◌≡◌, sym, ap, ◌∙◌}
use Prim.Native.Nat.{ℕ, ◌+◌, ◌-◌, ◌*◌, ◌/◌, ◌%◌, ◌^◌, ◌≤◌, ◌<◌}
use native.Mathlib.Nat.{add-zero, lt_of_lt_of_le, lt_of_le_of_lt, div-eq_of_lt, mod-eq_of_lt, zero-mod, one-mul, mul_assoc, mul-add-mod_self_right}
use native.Mathlib.Omega.{arith}
use lib.Bits.{bit_and, bit_or, and_mask, or_shifted}
use lib.Dec.{lit<}
use lib.Pow.{shl_exact, shr_le, pow_pos, pow-add, pow_mono, mod-pow-add, high, low}

-- the mask's top, 1 << n
pub one_shl : (n : ℕ) → n < 32 → 1 * 2 ^ n % 2 ^ 32 ≡ 2 ^ n
one_shl n h = shl_exact {a = 1} 1 n 32 (lit< tt) (omega arith) ∙ one-mul (2 ^ n)

pub shift_mask : (x lo n : ℕ) → n < 32 → bit_and (x / 2 ^ lo) (1 * 2 ^ n % 2 ^ 32 - 1) ≡ x / 2 ^ lo % 2 ^ n
shift_mask x lo n h = rw (one_shl n h) (and_mask (x / 2 ^ lo) n)

-- a number of w bits has no field above them
pub no_field : (w x lo n : ℕ) → x < 2 ^ w → w ≤ lo → 0 ≡ x / 2 ^ lo % 2 ^ n
no_field w x lo n h l = rw (div-eq_of_lt (lt_of_lt_of_le h (pow_mono l))) (sym (zero-mod (2 ^ n)))

-- a field of 32 bits or more is all that is above it
pub whole_field : (x lo n : ℕ) → x < 2 ^ 32 → 32 ≤ n → x / 2 ^ lo ≡ x / 2 ^ lo % 2 ^ n
whole_field x lo n h l = sym (mod-eq_of_lt (lt_of_le_of_lt (shr_le x lo) (lt_of_lt_of_le h (pow_mono l))))

module _ (a n : ℕ) where
  -- what a shift within j + n bits keeps
  kept : (j r : ℕ) → r < 2 ^ n → (a * 2 ^ n + r) % 2 ^ (j + n) ≡ a % 2 ^ j * 2 ^ n + r
  kept j r h = rw (mod-pow-add (a * 2 ^ n + r) j n, high a n h, low a n h)

  pub shift_or : (r w : ℕ) → n ≤ w → r < 2 ^ n → bit_or (a * 2 ^ n % 2 ^ w) r ≡ (a * 2 ^ n + r) % 2 ^ w
  shift_or r w l h =
      let j : ℕ = w - n in
      let e : w ≡ j + n = omega arith in
      let alone : a * 2 ^ n % 2 ^ (j + n) ≡ a % 2 ^ j * 2 ^ n = ap (λ (m : ℕ). m % 2 ^ (j + n)) (sym (add-zero _)) ∙ kept j 0 (pow_pos n) ∙ add-zero _ in
      rw (e, alone, kept j r h) (or_shifted (a % 2 ^ j) n r h)

-- joined above bit 31, the high part is lost
pub join_past : (a r n : ℕ) → r < 2 ^ 32 → 32 ≤ n → r ≡ (a * 2 ^ n + r % 2 ^ n) % 2 ^ 32
join_past a r n h l =
    let e : a * 2 ^ n ≡ a * 2 ^ (n - 32) * 2 ^ 32 =
    ap (λ (m : ℕ). a * m) (ap (λ (m : ℕ). 2 ^ m) (omega arith) ∙ pow-add 2 (n - 32) 32) ∙ sym (mul_assoc a (2 ^ (n - 32)) (2 ^ 32)) in
    rw (e, mod-eq_of_lt (lt_of_lt_of_le h (pow_mono l)), mul-add-mod_self_right) (sym (mod-eq_of_lt h))
