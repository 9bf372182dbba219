-- The line of a refusal.
use Rattle.std.specs.Prelude.{ℕ, List, [], ◌∷◌, ◌++◌}
use Rattle.text.specs.Words.{bytes, space, newline}
use Rattle.text.specs.Digits.{decimal}

-- each value behind a space
unfoldable pub values_text : List ℕ → List ℕ
values_text [] = []
values_text (x ∷ values) = space ++ decimal x ++ values_text values

-- by its number and the values that it carries
unfoldable pub refused_text : ℕ → List ℕ → List ℕ
refused_text number values = bytes "refused " ++ decimal number ++ values_text values ++ newline
