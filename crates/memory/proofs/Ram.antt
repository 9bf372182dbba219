-- What an access to RAM says of its two tests, and what a store keeps.
use Rattle.std.specs.Prelude.{Result, Ok, Err}
use Prim.Native.Nat.{ℕ, ◌+◌, ◌≤◌}
use native.Mathlib.Omega.{arith}
use mathlib.Core.Bool.{Bool, true, false, cond, true≢false}
use mathlib.Core.List.{List}
use mathlib.Core.Path.{◌≡◌, refl}
use borrow.Author.Tests.{le-leb, leb-true}
use Rattle.window.specs.Windows.{whole_ram, inside_window}
use Rattle.window.specs.declared.Window.{Window}
use Rattle.endian.specs.LittleEndian.{width_of, store_le}
use Rattle.endian.specs.declared.Size.{Size}
use Rattle.state.specs.declared.Base.{Base}
use Rattle.state.specs.declared.Base.TheVariants.{Nothing, Ram, External}
use Rattle.memory.specs.Memory.{inside_ram, ram_access, after_if, ram_stored, ram_after, after_store_by}
use Rattle.memory.specs.declared.Fault.{Fault}
use Rattle.memory.specs.declared.Fault.TheVariants.{PastRam, OutsideWindow}

-- the window that is all of RAM holds what lies in RAM
pub whole_window : (at bytes : ℕ) → inside_window whole_ram at bytes ≡ inside_ram at bytes
unfolding inside_window
whole_window at bytes = rw (le-leb 0 at (omega arith))

-- ---- by the two tests, of which the code makes the first by that window

abbrev by : Bool → Bool → Fault → Result Unit Fault
by ram window past = cond ram (cond window (Ok tt) (Err OutsideWindow)) (Err past)

both_passed : (ram window : Bool) (past : Fault) → by ram window past ≡ Ok tt → (ram ≡ true) × (window ≡ true)
both_passed true true past e = (refl, refl)
both_passed true false past e = absurd (true≢false cc)
both_passed false window past e = absurd (true≢false cc)

module _ (window : Window) (at bytes : ℕ) (past : Fault) where
  pub past_ram : (whole : Window) (ram : Bool) → whole ≡ whole_ram → ram ≡ inside_window whole at bytes → ram ≡ false
      → Err past ≡ ram_access window at bytes past
  unfolding ram_access
  past_ram whole ram e t f = rw (← whole_window at bytes, ← e, ← t, f)

  pub in_ram : (whole : Window) (ram inside passed : Bool) → whole ≡ whole_ram → ram ≡ inside_window whole at bytes → ram ≡ true
      → inside ≡ inside_window window at bytes → inside ≡ passed → cond passed (Ok tt) (Err OutsideWindow) ≡ ram_access window at bytes past
  unfolding ram_access
  in_ram whole ram inside passed e t f i p = rw (← whole_window at bytes, ← e, ← t, f, ← p, i)

  pub done : ram_access window at bytes past ≡ Ok tt → (inside_ram at bytes ≡ true) × (inside_window window at bytes ≡ true)
  unfolding ram_access
  done = both_passed (inside_ram at bytes) (inside_window window at bytes) past

  -- its offset is small
  pub done_near : ram_access window at bytes past ≡ Ok tt → at ≤ 32768
  done_near e = omega (arith, leb-true (at + bytes) 32768 (done e).0)

-- ---- what every store keeps, the RAM after one has too

module _ (P : List ℕ → Type 0) (window : Window) (ram : List ℕ) (x : ℕ) (h : P ram)
    (kept : (at : ℕ) (size : Size) → P (store_le (width_of size) ram at x)) where
  pub ram_keeps : (at : ℕ) (size : Size) (past : Fault) → P (ram_after window ram at size past x)
  unfolding ram_after
  ram_keeps at size past = go (ram_stored window at size past)
    where
      go : (t : Result Unit Fault) → P (after_if t (store_le (width_of size) ram at x) ram)
      go (Ok t) = kept at size
      go (Err fault) = h

  pub base_keeps : (b : Base) (imm12 : ℕ) (size : Size) → P (after_store_by b window ram imm12 size x)
  unfolding after_store_by
  base_keeps Nothing imm12 size = h
  base_keeps (Ram offset) imm12 size = ram_keeps (offset + imm12) size PastRam
  base_keeps (External offset) imm12 size = h
