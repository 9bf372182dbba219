-- How the decoder finds a 16-bit row: by the class of its top byte, then by its operands.
use Rattle.std.specs.Prelude.{ℕ, suc, Bool, false, ◌||◌, cond, List, [], ◌∷◌, take}
use Rattle.bits.specs.Fields.{bits}
use Rattle.isa.specs.Patterns.{matches}
use Rattle.isa.specs.ListedEncodings.{Row, row, lines16, imm6_of}
use Rattle.isa16.specs.declared.Operands.{Operands}

-- a row of the line begins with the top byte t
abbrev pub begins : List Row → ℕ → Bool
begins [] t = false
begins (row p m ∷ rows) t = matches (take 8 p) t || begins rows t

-- the number of the first line that has such a row; the number of lines if none has
abbrev pub line_number : List (List Row) → ℕ → ℕ
line_number [] t = 0
line_number (rows ∷ lines) t = cond (begins rows t) 0 (suc (line_number lines t))

unfoldable pub class_of : ℕ → ℕ
class_of t = line_number lines16 t

abbrev pub operands_of : ℕ → Operands
operands_of h = record {
  low3 = bits h 2 0;
  mid3 = bits h 5 3;
  high3 = bits h 8 6;
  bits_10_8 = bits h 10 8;
  imm5 = bits h 10 6;
  imm6 = imm6_of h;
  imm8 = bits h 7 0;
  imm11 = bits h 10 0;
  condition = bits h 11 8;
}
