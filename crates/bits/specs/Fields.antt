-- Fields of a word, in the manual's notation. A word is a natural number below 2 ^ 32.
use Rattle.std.specs.Prelude.{ℕ, ◌+◌, ◌-◌, ◌*◌, ◌/◌, ◌%◌, ◌^◌, Bool, eqb}

-- x<hi:lo>
abbrev pub bits : ℕ → ℕ → ℕ → ℕ
bits x hi lo = x / 2 ^ lo % 2 ^ (hi + 1 - lo)

-- x<n>
abbrev pub bit : ℕ → ℕ → Bool
bit x n = eqb (x / 2 ^ n % 2) 1

-- high:low<n-1:0>, in 32 bits
abbrev pub concat : ℕ → ℕ → ℕ → ℕ
concat high low n = (high * 2 ^ n + low % 2 ^ n) % 2 ^ 32
