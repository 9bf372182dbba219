-- How long the line of a refusal is.
use Prim.Native.Nat.{ℕ, ◌+◌, ◌*◌, ◌≤◌}
use mathlib.Core.List.{List, [], ◌∷◌}
use native.Mathlib.Omega.{arith}
use lib.ListN.{length, length-append}
use Rattle.text.proofs.Digits.{decimal_length}
use Rattle.refusal_line.specs.RefusalLine.{values_text, refused_text}

values_length : (values : List ℕ) → length (values_text values) ≤ 11 * length values
unfolding values_text
values_length [] = omega arith
values_length (x ∷ values) = simp length-append (omega (arith, decimal_length x, values_length values))

pub refused_length : (number : ℕ) (values : List ℕ) → length (refused_text number values) ≤ 19 + 11 * length values
unfolding refused_text
refused_length number values = simp length-append (omega (arith, decimal_length number, values_length values))
