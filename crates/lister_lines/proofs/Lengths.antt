-- No line is longer than 36 bytes.
use mathlib.Core.Bool.{Bool, true, false}
use Prim.Native.Nat.{ℕ, ◌≤◌}
use native.Mathlib.Omega.{arith}
use lib.ListN.{length, length-append}
use Rattle.prefix.specs.LargestSuccessor.{Reading, bad_bundle, no_successor, largest}
use Rattle.text.proofs.Digits.{hex_length, decimal_length}
use Rattle.lister_lines.specs.Lines.{head_text, inside_text, largest_text, bundle_text}

pub head_length : (bundles count : ℕ) → length (head_text bundles count) ≤ 36
unfolding head_text
head_length bundles count = simp length-append (omega (arith, decimal_length bundles, decimal_length count))

inside_length : (inside : Bool) → length (inside_text inside) ≤ 3
unfolding inside_text
inside_length true = omega arith
inside_length false = omega arith

largest_length : (reading : Reading) → length (largest_text reading) ≤ 10
unfolding largest_text
largest_length bad_bundle = omega arith
largest_length no_successor = omega arith
largest_length (largest s) = decimal_length s

pub line_length : (k first second : ℕ) (inside : Bool) (reading : Reading) → length (bundle_text k first second inside reading) ≤ 36
unfolding bundle_text
line_length k first second inside reading =
    simp length-append
    (omega (arith, decimal_length k, hex_length 4 first, hex_length 4 second, inside_length inside, largest_length reading))
