-- Laws of the definitions, for those who call.
use mathlib.Core.Bool.{Bool, true, false, cond}
use Prim.Native.Nat.{ℕ, ◌-◌, ◌^◌, ◌<◌}
use native.Mathlib.Nat.{le_refl}
use lib.IntN.{pos, ◌-ℤ◌}
use lib.Signed.{mag}
use Rattle.laws.proofs.Differences.{minus, mag_diff}
use Rattle.bits.specs.Fields.{bit}
use Rattle.bits.specs.Integers.{SInt}

-- a field's integer is no larger than the field allows
pub sint_mag : (n x : ℕ) → x < 2 ^ n → mag (SInt n x) < 2 ^ n
sint_mag n x h = by (bit x (n - 1))
  where
    by : (t : Bool) → mag (cond t (pos x -ℤ pos (2 ^ n)) (pos x)) < 2 ^ n
    by true = rw minus (mag_diff x (2 ^ n) (2 ^ n) h (le_refl (2 ^ n)))
    by false = h
