use mathlib.Core.List.{List, []}
use Prim.Native.Nat.{ℕ}
use Rattle.text.specs.Text.{Puts}
use mathlib.Core.Path.{◌≡◌, refl}
use native.Mathlib.Omega.{arith}
use lib.ListN.{length}
use Rattle.layout.specs.StoredForm.{stored_form}
use Rattle.text.proofs.Laws.{whole}
use Rattle.short_layout.specs.ShortForm.{short_bytes}
use Rattle.short_layout.proofs.Theorems.{length_most_five}
use Rattle.short_form.proofs.Decisions.{no_room, put_in}
use Rattle.short_form.proofs.put_form.Goals as goal

-- the form is whole
measured : (numbers : List ℕ) {text after : List ℕ} {end : ℕ} → length text ≡ 65 → Puts text 0 (short_bytes numbers) end after
    → end ≡ length (short_bytes numbers)
unfolding short_bytes
measured numbers l x = (whole (omega (arith, l, length_most_five stored_form [] numbers)) x).0

pub returns-then-room-length : goal.returns-then-room-length
returns-then-room-length c =
    let s = c.args in
    no_room (short_bytes s.numbers) s.room.now (omega (arith, measured s.numbers refl c.put_numbers-length.ensures))

pub returns : goal.returns
returns c =
    let s = c.args in
    put_in (short_bytes s.numbers) s.room.now _ _ _ (measured s.numbers refl c.put_numbers-length.ensures) (omega arith) c.put_numbers.ensures
