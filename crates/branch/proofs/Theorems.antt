-- How far a branch goes.
use mathlib.Core.Bool.{Bool, true, false, cond}
use Prim.Native.Nat.{ℕ, zero, suc, ◌+◌, ◌*◌, ◌/◌, ◌%◌, ◌^◌, ◌≤◌, ◌<◌}
use native.Mathlib.Nat.{le-suc, mul-le-mul_left}
use native.Mathlib.Decide.{dec_lt}
use native.Mathlib.Omega.{arith}
use lib.Dec.{eqb}
use lib.IntN.{ℤ, pos, negsuc, neg_ℤ, ◌+ℤ◌, ◌*ℤ◌}
use lib.Signed.{mag}
use Rattle.laws.proofs.Differences.{less, more}
use Rattle.bits.specs.Fields.{bits}
use Rattle.bits.specs.Integers.{SInt}
use Rattle.bits.proofs.Theorems.{sint_mag}
use Rattle.branch.specs.Branches.{bundle_at, target_of, Near}
use Rattle.std.specs.Prelude.{Some, None}

pub mag_times : (k : ℕ) (z : ℤ) → mag (pos k *ℤ z) ≤ k * suc (mag z)
mag_times k (pos n) = mul-le-mul_left k (le-suc n)
mag_times k (negsuc n) = by (k * suc n)
  where
    by : (m : ℕ) → mag (neg_ℤ (pos m)) ≤ m
    by zero = omega arith
    by (suc m) = omega arith

pub mag_sum : (a : ℕ) (z : ℤ) → mag (pos a +ℤ z) ≤ a + mag z
mag_sum a (pos b) = omega arith
mag_sum a (negsuc b) = elim (dec_lt a (suc b)) [
  | yes h ↦ rw (less a (suc b) h) (omega arith)
  | no h ↦ rw (more a (suc b) (omega arith)) (omega arith)
]

near_bundle : (z : ℤ) → mag z < 2 ^ 17 → Near (bundle_at z)
unfolding bundle_at
near_bundle (negsuc n) h = tt
near_bundle (pos n) h = by (eqb (n % 4) 0)
  where
    by : (t : Bool) → Near (cond t (Some (n / 4)) None)
    by true = omega arith
    by false = tt

-- from a place of a page
near : (place : ℕ) (z : ℤ) → place < 128 → mag z < 2 ^ 11 → Near (target_of place z)
near place z p h =
    near_bundle (pos (2 * place + 4) +ℤ (pos 2 *ℤ z)) (omega (arith, mag_sum (2 * place + 4) (pos 2 *ℤ z), mag_times 2 z))

pub near_compare : (place imm6 : ℕ) → place < 128 → imm6 < 256 → Near (target_of place (pos imm6))
near_compare place imm6 p h = near place (pos imm6) p (omega arith)

pub near_conditional : (place imm8 : ℕ) → place < 128 → imm8 < 256 → Near (target_of place (SInt 8 imm8))
near_conditional place imm8 p h = near place (SInt 8 imm8) p (omega (arith, sint_mag 8 imm8 (omega arith)))

pub near_b : (place imm11 : ℕ) → place < 128 → Near (target_of place (SInt 11 (bits imm11 10 0)))
near_b place imm11 p = near place (SInt 11 (bits imm11 10 0)) p (sint_mag 11 (bits imm11 10 0) (omega arith))
