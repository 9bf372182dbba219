-- Bit patterns as the papers print them: O and I are fixed bits, x is any.
use Rattle.std.specs.Prelude.{ℕ, Bool, true, not, ◌&&◌, List, [], ◌∷◌, length}
use Rattle.bits.specs.Fields.{bit}

pub data Bit : Type 0 where
  O : Bit
  I : Bit
  x : Bit

-- eight bits, and the pattern behind them
abbrev pub byte : Bit → Bit → Bit → Bit → Bit → Bit → Bit → Bit → List Bit → List Bit
byte a b c d e f g h p = a ∷ b ∷ c ∷ d ∷ e ∷ f ∷ g ∷ h ∷ p

abbrev pub agrees : Bit → Bool → Bool
agrees O v = not v
agrees I v = v
agrees x v = true

-- each of the pattern's bits agrees with w's; the last stands for bit 0
unfoldable pub matches : List Bit → ℕ → Bool
matches [] w = true
matches (b ∷ p) w = agrees b (bit w (length p)) && matches p w
