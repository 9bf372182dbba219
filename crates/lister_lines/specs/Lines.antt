-- The lines that the lister prints for a page that is accepted.
use Rattle.std.specs.Prelude.{ℕ, Bool, true, false, List, ◌++◌}
use Rattle.prefix.specs.LargestSuccessor.{Reading, bad_bundle, no_successor, largest}
use Rattle.text.specs.Words.{bytes, space, newline}
use Rattle.text.specs.Digits.{hex, decimal}

-- how many bundles the page has, and its count
unfoldable pub head_text : ℕ → ℕ → List ℕ
head_text bundles count = bytes "bundles " ++ decimal bundles ++ bytes " count " ++ decimal count ++ newline

-- below the count, or at or above it
unfoldable pub inside_text : Bool → List ℕ
inside_text true = bytes "ok"
inside_text false = bytes "out"

-- the largest successor
unfoldable pub largest_text : Reading → List ℕ
largest_text bad_bundle = bytes "bad"
largest_text no_successor = bytes "-"
largest_text (largest s) = decimal s

-- bundle k: its halfwords, whether it lies below the count, its largest successor
unfoldable pub bundle_text : ℕ → ℕ → ℕ → Bool → Reading → List ℕ
bundle_text k first second inside reading =
    decimal k ++ space ++ hex 4 first ++ space ++ hex 4 second ++ space
    ++ inside_text inside ++ space ++ largest_text reading ++ newline
