use mathlib.Core.Path.{refl}
use Prim.Native.Nat.{◌≤◌, ◌<◌}
use lib.ListN.{length}
use native.Mathlib.Omega.{arith}
use borrow.Author.Tests.{le-leb, lt-leb}
use Rattle.text.specs.Room.{written_of, placed}
use Rattle.text.proofs.place.Goals as goal

pub returns-then-room-text : goal.returns-then-room-text
unfolding written_of placed
returns-then-room-text c =
    let small : length c.args.room.now < length c.args.text.now = omega arith in
    rw (lt-leb _ _ small) (refl, refl)

pub returns : goal.returns
unfolding written_of placed
returns c =
    let fits : length c.args.text.now ≤ length c.args.room.now = omega arith in
    rw (le-leb _ _ fits, c.copy_from_slice.ensures.after) (refl, refl)
