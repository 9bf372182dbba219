-- A frame that may be read or written lies in RAM.
use Rattle.memory.specs.declared.Fault.{Fault}
use Rattle.std.specs.Prelude.{Result, Ok, Err}
use Prim.Native.Nat.{ℕ, ◌+◌, ◌≤◌}
use native.Mathlib.Omega.{arith}
use mathlib.Core.Bool.{Bool, true, false, cond, true≢false}
use mathlib.Core.Path.{◌≡◌, refl}
use lib.Dec.{ltb}
use borrow.Author.Tests.{ltb-false, leb-true, le-ltb, le-leb}
use Rattle.window.specs.Windows.{inside_window}
use Rattle.window.specs.declared.Window.{Window}
use Rattle.memory.specs.Memory.{ram_access}
use Rattle.memory.specs.declared.Fault.TheVariants.{PastStack, LowStack, OutsideWindow}
use Rattle.memory.proofs.Ram.{done}
use Rattle.frame.specs.Frames.{offset_of, frame_access}

pub frame_done : (window : Window) (address : ℕ) → frame_access window address ≡ Ok tt
    → (0x10000 ≤ address) × (ram_access window (offset_of address) 32 PastStack ≡ Ok tt)
unfolding frame_access
frame_done window address = go (ltb address 0x10000) refl
  where
    go : (low : Bool) → ltb address 0x10000 ≡ low → cond low (Err LowStack) (ram_access window (offset_of address) 32 PastStack) ≡ Ok tt
        → (0x10000 ≤ address) × (ram_access window (offset_of address) 32 PastStack ≡ Ok tt)
    go true e d = absurd (true≢false cc)
    go false e d = (ltb-false address 0x10000 e, d)

-- so FP, and SP above it, are small
pub done_small : (window : Window) (address : ℕ) → frame_access window address ≡ Ok tt → address + 32 ≤ 0x18000
done_small window address d =
    let there = frame_done window address d in
    let inside = leb-true (offset_of address + 32) 32768 (done window (offset_of address) 32 PastStack there.1).0 in
    omega (arith, there.0)

-- a frame in RAM meets no fault but the window's
abbrev pub InWindowOr7 : Result Unit Fault → Type 0
InWindowOr7 (Ok t) = Unit {0}
InWindowOr7 (Err fault) = fault ≡ OutsideWindow

pub frame_met_lem : (window : Window) (address : ℕ) → 0x10000 ≤ address → address + 32 ≤ 0x18000 → InWindowOr7 (frame_access window address)
unfolding frame_access ram_access
frame_met_lem window address low high =
    rw (le-ltb address 0x10000 low, le-leb (offset_of address + 32) 32768 (omega arith)) (go (inside_window window (offset_of address) 32))
  where
    go : (inside : Bool) → InWindowOr7 (cond inside (Ok tt) (Err OutsideWindow))
    go true = tt
    go false = refl
