-- A text that grows: a piece is put into a buffer at a position.
use Rattle.std.specs.Prelude.{ℕ, ◌+◌, min, ◌≡◌, List, length}
use Rattle.std.proofs.lemmas.List.Edits.{sets}
use Rattle.text.specs.declared.Text.{Text}

-- the piece's bytes are stored one by one from the position on, those past the end of the buffer nowhere; the text then ends
-- behind the piece, or where the buffer ends
pub record Puts (before : List ℕ) (at : ℕ) (piece : List ℕ) (end : ℕ) (after : List ℕ) : Type 0 where
  pub after_is : after ≡ sets before at piece
  pub end_is : end ≡ min (at + length piece) (length before)

-- the same for the first bytes of a buffer, which stays where it is
pub record Grows (before : Text) (piece : List ℕ) (after : Text) : Type 0 where
  pub same_buffer : after.buffer.ghost_name ≡ before.buffer.ghost_name
  pub puts : Puts before.buffer.now before.end piece after.end after.buffer.now
