-- What stands at the front of a room whose part was written.
use Rattle.std.proofs.Common.{◌≡◌, ℕ, ◌+◌, ◌-◌, ◌≤◌, List, ◌++◌, length, take, drop, sym, ap, ◌∙◌, drop_at, le_refl, length-take-le}
use Rattle.std.proofs.lemmas.Slice.{take-put_mid_below}
use borrow.Rule.Slice.PartMut.{put_mid, post_of}
use lib.Seq.{take-add, take-append-le}

-- the room's first a, and then n of the bytes that were written from a on
pub front_joined : (a n : ℕ) (room bytes : List ℕ) → a ≤ length room → n ≤ length bytes
    → take a room ++ take n bytes ≡ take (a + n) (put_mid a (length room - a) room bytes)
front_joined a n room bytes within fits =
    let written = put_mid a (length room - a) room bytes in
    let part : take n (drop a written) ≡ take n bytes = ap (take n) (drop_at (take a room) (bytes ++ post_of a (length room - a) room) a (length-take-le a room within)) ∙ take-append-le n bytes _ fits in
    let front : take a written ≡ take a room = take-put_mid_below _ _ _ _ _ (le_refl _) within in
    ap (λ l. l ++ take n bytes) (sym front) ∙ ap (λ l. take a written ++ l) (sym part) ∙ sym (take-add a n written)
