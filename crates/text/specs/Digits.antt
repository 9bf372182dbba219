-- Numbers as text, in hex and in decimal.
use Rattle.std.specs.Prelude.{ℕ, zero, suc, ◌+◌, ◌-◌, ◌/◌, ◌%◌, cond, List, [], ◌∷◌, ◌++◌, ltb}

-- a digit below 16: 0 to 9 are the bytes from "0", 10 to 15 the capitals from "A"
unfoldable pub digit : ℕ → ℕ
digit d = cond (ltb d 10) (48 + d) (65 + (d - 10))

-- the last n hex digits of x, highest first
unfoldable pub hex : ℕ → ℕ → List ℕ
hex zero x = []
hex (suc n) x = hex n (x / 16) ++ digit (x % 16) ∷ []

-- x, which has at most n decimal digits: no leading zeros, and "0" for 0
unfoldable pub decimal_in : ℕ → ℕ → List ℕ
decimal_in zero x = []
decimal_in (suc n) x = cond (ltb x 10) (digit x ∷ []) (decimal_in n (x / 10) ++ digit (x % 10) ∷ [])

-- a number below 2 ^ 32 has at most ten digits
unfoldable pub decimal : ℕ → List ℕ
decimal x = decimal_in 10 x
