-- Integers as differences of naturals, `sub_ℕ a b`: a claim on ℤ becomes one on ℕ, which omega proves.
use mathlib.Core.Path.{◌≡◌, refl, sym, ap, ◌∙◌}
use Prim.Native.Nat.{ℕ, zero, suc, ◌+◌, ◌-◌, ◌≤◌, ◌<◌}
use native.Mathlib.Decide.{dec_lt}
use native.Mathlib.Omega.{arith}
use lib.IntN.{pos, negsuc, neg_ℤ, sub_ℕ, ◌+ℤ◌, ◌-ℤ◌}
use lib.Signed.{mag}
use borrow.Author.Tests.{lt-ltb, le-ltb}

pub less : (a b : ℕ) → a < b → sub_ℕ a b ≡ negsuc (b - suc a)
less a b h = simp (lt-ltb a b h)

pub more : (a b : ℕ) → b ≤ a → sub_ℕ a b ≡ pos (a - b)
more a b h = simp (le-ltb a b h)

-- two differences are equal
pub same : (a b c d : ℕ) → a + d ≡ c + b → sub_ℕ a b ≡ sub_ℕ c d
same a b c d e = elim (dec_lt a b) [
  | yes h ↦ less a b h ∙ ap negsuc (omega arith) ∙ sym (less c d (omega arith))
  | no h ↦ more a b (omega arith) ∙ ap pos (omega arith) ∙ sym (more c d (omega arith))
]

pub of_pos : (n : ℕ) → pos n ≡ sub_ℕ n 0
of_pos n = sym (more n 0 (omega arith) ∙ ap pos (omega arith))

pub of_negsuc : (n : ℕ) → negsuc n ≡ sub_ℕ 0 (suc n)
of_negsuc n = sym (less 0 (suc n) (omega arith) ∙ ap negsuc (omega arith))

-- the sum of two differences
pub sum : (a b c d : ℕ) → sub_ℕ a b +ℤ sub_ℕ c d ≡ sub_ℕ (a + c) (b + d)
sum a b c d = elim (dec_lt a b) [
  | yes h ↦ elim (dec_lt c d) [
    | yes k ↦ rw (less a b h, less c d k) (ap negsuc (omega arith) ∙ sym (less (a + c) (b + d) (omega arith)))
    | no k ↦ rw (less a b h, more c d (omega arith)) (same (c - d) (suc (b - suc a)) (a + c) (b + d) (omega arith))
  ]
  | no h ↦ elim (dec_lt c d) [
    | yes k ↦ rw (more a b (omega arith), less c d k) (same (a - b) (suc (d - suc c)) (a + c) (b + d) (omega arith))
    | no k ↦ rw (more a b (omega arith), more c d (omega arith)) (ap pos (omega arith) ∙ sym (more (a + c) (b + d) (omega arith)))
  ]
]

negated : (n : ℕ) → neg_ℤ (pos n) ≡ sub_ℕ 0 n
negated zero = refl
negated (suc n) = of_negsuc n

pub minus : (a b : ℕ) → pos a -ℤ pos b ≡ sub_ℕ a b
minus a b = rw (negated b, of_pos a, sum) (same (a + 0) (0 + b) a b (omega arith))

-- a difference is no larger than its parts
pub mag_diff : (a b n : ℕ) → a < n → b ≤ n → mag (sub_ℕ a b) < n
mag_diff a b n h k = elim (dec_lt a b) [
  | yes l ↦ rw (less a b l) (omega arith)
  | no l ↦ rw (more a b (omega arith)) (omega arith)
]
