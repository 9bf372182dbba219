use mathlib.Core.Path.{◌≡◌}
use Prim.Native.Nat.{◌+◌, ◌-◌}
use Rattle.endian.specs.LittleEndian.{store_le}
use Rattle.endian.proofs.store.Given as goal

abbrev pub invariant-loop-i : goal.invariant-loop-i
invariant-loop-i l = store_le (l.i-end - l.i) l.bytes (l.at-2 + l.i) l.rest ≡ store_le l.i-end l.initial.bytes l.at-2 l.x
