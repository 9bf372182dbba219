-- Parts of a list, over plain variables.
use mathlib.Core.Path.{◌≡◌, ◌∙◌}
use mathlib.Core.List.{List}
use Prim.Native.Nat.{ℕ, min, ◌+◌, ◌-◌}
use native.Mathlib.Decide.{dec_le}
use native.Mathlib.Omega.{arith}
use lib.ListN.{length, take, drop, length-drop, drop_of_length-le}
use lib.Seq.{take_all}

-- nothing is past the end
drops : (a : ℕ) (xs : List ℕ) → drop (min a (length xs)) xs ≡ drop a xs
drops a xs = elim (dec_le a (length xs)) [
  | yes l ↦ let e : min a (length xs) ≡ a = omega arith in rw e
  | no l ↦
      let e : min a (length xs) ≡ length xs = omega arith in
      rw (e, drop_of_length-le xs {i = length xs} (omega arith), drop_of_length-le xs {i = a} (omega arith))
]

takes : (n m : ℕ) (xs : List ℕ) → m ≡ min n (length xs) → take m xs ≡ take n xs
takes n m xs e = elim (dec_le n (length xs)) [
  | yes l ↦ let f : m ≡ n = omega arith in rw f
  | no l ↦ rw (take_all m xs (omega arith), take_all n xs (omega arith))
]

pub clipped : (n a from end : ℕ) (xs : List ℕ) → from ≡ min a (length xs) → end ≡ min (from + n) (length xs)
    → take (end - from) (drop from xs) ≡ take n (drop a xs)
clipped n a from end xs e f =
    takes n (end - from) (drop from xs) (omega (arith, length-drop from xs)) ∙ rw (e, drops)
