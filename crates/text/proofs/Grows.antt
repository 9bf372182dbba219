-- A text that grows in its buffer.
use mathlib.Core.Path.{◌≡◌, refl, ◌∙◌}
use mathlib.Core.List.{List, [], ◌++◌}
use Prim.Native.Nat.{ℕ, ◌≤◌}
use native.Mathlib.Omega.{arith}
use lib.ListN.{length, take}
use Rattle.text.specs.declared.Text.{Text}
use Rattle.text.specs.Text.{Grows}
use Rattle.text.proofs.Laws.{unchanged_lem, keeps_length, whole}
use Rattle.text.proofs.Laws.{◌then◌ as ◌and_then◌}

-- one piece behind another
infixl 30 ◌then◌
pub ◌then◌ : {before between after : Text} {p q : List ℕ} → Grows before p between → Grows between q after → Grows before (p ++ q) after
x then y = record { same_buffer = y.same_buffer ∙ x.same_buffer; puts = x.puts and_then y.puts }

-- nothing, behind a piece
pub nothing_more : {before after : Text} {p : List ℕ} → Grows before p after → Grows after [] after
nothing_more {after = after} x =
    let h : after.end ≤ length after.buffer.now = omega (arith, keeps_length x.puts, x.puts.end_is) in
    record { same_buffer = refl; puts = unchanged_lem after.buffer.now after.end h }

-- a text that was begun at the start of a buffer, and for which there is room
pub all_put : {before after : Text} {text : List ℕ} → before.end ≡ 0 → length text ≤ length before.buffer.now → Grows before text after
    → take after.end after.buffer.now ≡ text
all_put e h x = (whole h (rw e at x.puts)).1
