-- What stands at the front of a room to which a text went.
use mathlib.Core.Path.{◌≡◌, refl, ap}
use mathlib.Core.List.{List}
use Prim.Native.Nat.{ℕ, ◌≤◌}
use native.Mathlib.Decide.{dec_lt}
use native.Mathlib.Omega.{arith}
use lib.ListN.{length, take, drop, length-append}
use lib.Seq.{take_at}
use Rattle.std.specs.Prelude.{Option}
use borrow.Author.Tests.{le-leb, lt-leb}
use Rattle.std.specs.Option.{unwrap_or}
use Rattle.text.specs.Room.{written_of, placed}

-- as many bytes as were written, and no byte of them but the text's
shown : (text room : List ℕ) (m : ℕ)
    → (unwrap_or (written_of text (length room)) 0 ≤ length (placed text room))
    × (m ≤ unwrap_or (written_of text (length room)) 0
    → take m (take (unwrap_or (written_of text (length room)) 0) (placed text room)) ≡ take m text)
unfolding written_of placed
shown text room m = elim (dec_lt (length room) (length text)) [
  | yes h ↦
      rw (lt-leb (length text) (length room) h)
      (omega arith, λ k. let e : m ≡ 0 = omega arith in rw e)
  | no h ↦
      let front = take_at text (drop (length text) room) (length text) refl in
      rw (le-leb (length text) (length room) (omega arith))
      (simp length-append (omega arith), λ k. ap (take m) front)
]

pub shown_of : {written : Option ℕ} {n : ℕ} {after : List ℕ} (text room : List ℕ) → written ≡ written_of text (length room) → after ≡ placed text room
    → n ≡ unwrap_or written 0
    → (n ≤ length after) × ((m : ℕ) → m ≤ n → take m (take n after) ≡ take m text)
shown_of text room w p e = rw (e, w, p) ((shown text room 0).0, λ m k. (shown text room m).1 k)
