-- Rows by their number; whether a word matches any; how many do.
use Rattle.std.specs.Prelude.{Bool, false, ◌||◌, cond, List, [], ◌∷◌, ℕ, zero, suc, ◌+◌}
use Rattle.isa.specs.Patterns.{Bit, matches}
use Rattle.isa.specs.ListedEncodings.{Row, row}

abbrev pub pattern_at : List Row → ℕ → List Bit
pattern_at [] k = []
pattern_at (row p m ∷ rows) zero = p
pattern_at (row p m ∷ rows) (suc k) = pattern_at rows k

abbrev pub matches_any : List Row → ℕ → Bool
matches_any [] w = false
matches_any (row p m ∷ rows) w = matches p w || matches_any rows w

-- how many numbers below n pass the test
unfoldable pub count_below : (ℕ → Bool) → ℕ → ℕ
count_below f zero = 0
count_below f (suc n) = count_below f n + cond (f n) 1 0
