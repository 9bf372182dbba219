-- Where the literal word counts: for low bytes 01 to 7F, and nowhere else.
use Prim.Native.Nat.{ℕ, ◌<◌}
use mathlib.Core.Bool.{Bool, true, false, true≢false, and-false}
use mathlib.Core.Path.{◌≡◌, refl, sym, ◌∙◌}
use lib.Dec.{leb}
use borrow.Author.Tests.{le-leb, lt-leb, leb-true, leb-false}
use Rattle.laws.proofs.Tests.{both}
use Rattle.service.specs.Services.{takes_literal, by_low_byte}
use Rattle.literal.specs.declared.Service.{Service}

pub by_literal_lem : (n : ℕ) (meant : Service) → takes_literal n ≡ true → by_low_byte n meant ≡ meant
unfolding by_low_byte
by_literal_lem n meant e = rw (lt-leb n 0x00 (leb-true 0x01 n (both (leb 0x01 n) (leb n 0x7F) e).0), (both (leb 0x01 n) (leb n 0x7F) e).1)

pub by_itself : (n : ℕ) (s t : Service) → takes_literal n ≡ false → by_low_byte n s ≡ by_low_byte n t
unfolding by_low_byte
by_itself n s t e = go (leb n 0x00) refl (leb n 0x7F) refl
  where
    go : (zero : Bool) → leb n 0x00 ≡ zero → (low : Bool) → leb n 0x7F ≡ low → by_low_byte n s ≡ by_low_byte n t
    go true z low l = rw z
    go false z false l = rw (z, l)
    go false z true l = absurd (true≢false (sym (rw (le-leb 0x01 n (leb-false n 0x00 z), l)) ∙ e))

pub below_lem : (n : ℕ) → n < 0x01 → takes_literal n ≡ false
below_lem n h = rw (lt-leb 0x01 n h)

pub above : (n : ℕ) → leb n 0x7F ≡ false → takes_literal n ≡ false
above n h = rw h (and-false (leb 0x01 n))
