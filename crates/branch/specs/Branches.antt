-- Branch targets.
use Rattle.std.specs.Prelude.{ℕ, ◌+◌, ◌*◌, ◌/◌, ◌%◌, ◌^◌, ◌<◌, cond, eqb, ℤ, pos, negsuc, ◌+ℤ◌, ◌*ℤ◌, Option, Some, None}

-- the bundle at a byte: one that is no multiple of 4 or lies before the page is bad; at or past the end is not
unfoldable pub bundle_at : ℤ → Option ℕ
bundle_at (pos n) = cond (eqb (n % 4) 0) (Some (n / 4)) None
bundle_at (negsuc n) = None

-- the byte that a branch at a place goes to: PC plus the doubled offset, with PC = address + 4; the address of a place is its double
abbrev pub target_byte : ℕ → ℤ → ℤ
target_byte place offset = pos (2 * place + 4) +ℤ (pos 2 *ℤ offset)

abbrev pub target_of : ℕ → ℤ → Option ℕ
target_of place offset = bundle_at (target_byte place offset)

-- the target's place is a number of 16 bits
abbrev pub Near : Option ℕ → Type 0
Near None = Unit {0}
Near (Some b) = b < 2 ^ 15
