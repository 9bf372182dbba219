-- The end of a window, tested by the last offset that fits, over plain variables.
use Prim.Native.Nat.{ℕ, ◌+◌, ◌-◌, ◌≤◌, ◌<◌}
use native.Mathlib.Omega.{arith}
use mathlib.Core.Bool.{true, false}
use mathlib.Core.Path.{◌≡◌}
use lib.Dec.{leb}
use borrow.Author.Tests.{le-leb, lt-leb}

pub too_many : (end at bytes : ℕ) → end < bytes → leb (at + bytes) end ≡ false
too_many end at bytes l = lt-leb (at + bytes) end (omega arith)

pub past_last : (end at bytes : ℕ) → end - bytes < at → leb (at + bytes) end ≡ false
past_last end at bytes l = lt-leb (at + bytes) end (omega arith)

pub up_to_last : (end at bytes : ℕ) → bytes ≤ end → at ≤ end - bytes → leb (at + bytes) end ≡ true
up_to_last end at bytes b l = le-leb (at + bytes) end (omega arith)
