-- A turn of the loop over the registers.
use mathlib.Core.Path.{◌≡◌}
use mathlib.Core.List.{List, [], ◌∷◌, ◌++◌, append_assoc, append-nil}
use Prim.Native.Nat.{ℕ, ◌+◌, ◌<◌}
use native.Mathlib.Numerals.{add-one}
use lib.ListN.{length, take, get_or}
use lib.Seq.{take-suc}
use Rattle.text.specs.declared.Text.{Text}
use Rattle.text.specs.Text.{Grows}
use Rattle.text.proofs.Grows.{◌then◌}
use Rattle.text.specs.Words.{space}
use Rattle.text.specs.Digits.{hex}
use Rattle.runner_lines.specs.Lines.{words_text}

word_last : (xs : List ℕ) (x : ℕ) → words_text (xs ++ x ∷ []) ≡ words_text xs ++ space ++ hex 8 x
unfolding words_text
word_last [] x = append-nil (space ++ hex 8 x)
word_last (y ∷ ys) x = rw (word_last ys x) (simp append_assoc)

word_more : (words : List ℕ) (i : ℕ) → i < length words
    → words_text (take (i + 1) words) ≡ words_text (take i words) ++ space ++ hex 8 (get_or words i 0)
word_more words i h = rw (add-one i, take-suc words i 0 h) (word_last (take i words) (get_or words i 0))

-- a turn of the loop over them
pub turn : {before between spaced after : Text} (words : List ℕ) (i : ℕ) → i < length words
    → Grows before (words_text (take i words)) between → Grows between space spaced → Grows spaced (hex 8 (get_or words i 0)) after
    → Grows before (words_text (take (i + 1) words)) after
turn words i h x y z = rw (word_more words i h) (x then y then z)
