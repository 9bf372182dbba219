-- Little-endian access to a list of bytes, over the size in bytes.
use Rattle.std.specs.Prelude.{ℕ, zero, suc, ◌+◌, ◌*◌, ◌/◌, ◌%◌, List, [], ◌∷◌, get_or, set}
use Rattle.endian.specs.declared.Size.{Size}
use Rattle.endian.specs.declared.Size.TheVariants.{Byte, Halfword, Word}

abbrev pub width_of : Size → ℕ
width_of Byte = 1
width_of Halfword = 2
width_of Word = 4

-- the number of the size bytes from at on, lowest first
abbrev pub load_le : ℕ → List ℕ → ℕ → ℕ
load_le zero bytes at = 0
load_le (suc size) bytes at = get_or bytes at 0 + 256 * load_le size bytes (at + 1)

-- the bytes with the low size bytes of x from at on, lowest first
abbrev pub store_le : ℕ → List ℕ → ℕ → ℕ → List ℕ
store_le zero bytes at x = bytes
store_le (suc size) bytes at x = store_le size (set bytes at (x % 256)) (at + 1) (x / 256)

-- the low size bytes of x, lowest first
abbrev pub bytes_of : ℕ → ℕ → List ℕ
bytes_of zero x = []
bytes_of (suc size) x = x % 256 ∷ bytes_of size (x / 256)
