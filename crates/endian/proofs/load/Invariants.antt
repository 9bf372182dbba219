use mathlib.Core.Path.{◌≡◌}
use Prim.Native.Nat.{◌+◌, ◌-◌}
use Rattle.endian.specs.LittleEndian.{load_le}
use Rattle.endian.proofs.load.Given as goal

abbrev pub invariant-loop-i : goal.invariant-loop-i
invariant-loop-i l = l.x ≡ load_le (l.initial.i - l.i) l.bytes (l.at-2 + l.i)
