-- The integers of words, and as the next operation reads them from their 64 bits.
use mathlib.Core.Path.{◌≡◌, ap, ◌∙◌}
use Prim.Native.Nat.{ℕ, ◌/◌, ◌%◌, ◌^◌, ◌<◌}
use native.Mathlib.Decide.{ℕ_discrete}
use native.Mathlib.Nat.{mod-eq_of_lt}
use native.Mathlib.Omega.{arith}
use lib.IntN.{ℤ, nat_abs}
use lib.Signed.{mag}
use borrow.Author.Tests.{ne_eqb}
use mir.Syntax.{w64}
use mir.Val.{to_z, of_z}
use Rattle.bits.specs.Integers.{SInt}
use Rattle.laws.proofs.Differences.{less, minus}
use Rattle.laws.proofs.Integers.{read}

-- a word's integer is in its range, and 0 only if the word is
pub in_range : (x : ℕ) → x < 2 ^ 32 → (mag (SInt 32 x) < 2 ^ 31) × ((x ≡ 0 → ⊥) → 0 < nat_abs (SInt 32 x))
in_range x h = elim (ℕ_discrete (x / 2 ^ 31 % 2) 1) [
  | yes e ↦ rw (e, minus, less x (2 ^ 32) h) (omega arith, λ n. omega arith)
  | no e ↦ rw (ne_eqb _ _ e) (omega arith, λ n. omega arith)
]

pub word : (x : ℕ) (z : ℤ) → x < 2 ^ 32 → mag z < 2 ^ 63 → z ≡ SInt 32 (x % 2 ^ 32) → to_z w64 (of_z w64 z) ≡ SInt 32 x
word x z h k e = read z k ∙ e ∙ ap (SInt 32) (mod-eq_of_lt h)
