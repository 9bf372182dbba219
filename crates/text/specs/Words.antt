-- Words as bytes.
use Rattle.std.specs.Prelude.{ℕ, List, [], ◌∷◌}
use Prim.Native.Char.{code}
use Prim.Native.String.{String, [] as empty, ◌∷◌ as ◌then◌}

-- the bytes of a word in ASCII, where the code of a character is its byte
abbrev pub bytes : String → List ℕ
bytes empty = []
bytes (letter then word) = code letter ∷ bytes word

-- between two fields
abbrev pub space : List ℕ
space = bytes " "

-- the end of a line
abbrev pub newline : List ℕ
newline = bytes "\n"
