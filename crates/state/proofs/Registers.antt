-- There is no register from 8 on.
use mathlib.Core.Bool.{Bool, true, false, cond}
use mathlib.Core.List.{List}
use mathlib.Core.Path.{◌≡◌, refl, sym}
use Prim.Native.Nat.{ℕ}
use native.Mathlib.Omega.{arith}
use lib.Dec.{ltb}
use lib.ListN.{length, set}
use lib.Seq.{set_out}
use borrow.Author.Tests.{ltb-false}

pub set_eighth : (regs : List ℕ) (k x : ℕ) → length regs ≡ 8 → cond (ltb k 8) (set regs k x) regs ≡ set regs k x
set_eighth regs k x l = by (ltb k 8) refl
  where
    by : (t : Bool) → ltb k 8 ≡ t → cond t (set regs k x) regs ≡ set regs k x
    by true e = refl
    by false e = sym (set_out regs k x (omega (arith, ltb-false k 8 e)))
