-- A text in lent room: at its start, or nowhere where the room is too small.
use Rattle.std.specs.Prelude.{ℕ, cond, List, ◌++◌, leb, length, drop, Option, Some, None}

-- what is answered for a room of n bytes: how many bytes were written, or that it was too small
unfoldable pub written_of : List ℕ → ℕ → Option ℕ
written_of text n = cond (leb (length text) n) (Some (length text)) None

-- the room afterwards: the text and the rest of the room, or the room as it was
unfoldable pub placed : List ℕ → List ℕ → List ℕ
placed text room = cond (leb (length text) (length room)) (text ++ drop (length text) room) room
