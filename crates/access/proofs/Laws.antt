-- What the code gives back, as the outcome that it stands for.
use Rattle.std.specs.Prelude.{Result, Ok, Err}
use Prim.Native.Nat.{ℕ, ◌+◌, ◌-◌}
use mathlib.Core.Bool.{Bool, true, false, cond}
use mathlib.Core.List.{List}
use mathlib.Core.Path.{◌≡◌, refl}
use lib.Dec.{ltb}
use Rattle.endian.specs.LittleEndian.{width_of, store_le}
use Rattle.endian.specs.declared.Size.{Size}
use Rattle.endian.specs.declared.Size.TheVariants.{Word}
use Rattle.window.specs.declared.Window.{Window}
use Rattle.memory.specs.Memory.{after_if, ram_stored, ram_after, stored_by, after_store_by}
use Rattle.memory.specs.declared.Fault.{Fault}
use Rattle.memory.specs.declared.Fault.TheVariants.{PastRam, PastStack, LowStack}
use Rattle.state.specs.declared.Base.{Base}
use Rattle.state.specs.declared.Base.TheVariants.{Nothing, Ram, External}
use Rattle.state.specs.declared.Record.{Record}
use Rattle.access.specs.Outcomes.{store_with, outcome_ram}
use Rattle.access.specs.LoadsAndStores.{stack_stored, after_stack_store}

-- a store that fails changes none either
ram_by : (r : Record) (window : Window) (ram : List ℕ) (at : ℕ) (size : Size) (past : Fault) (x : ℕ)
    → ram_after window ram at size past x ≡ outcome_ram ram (store_with r (ram_stored window at size past) (ram_after window ram at size past x))
unfolding ram_after store_with outcome_ram
ram_by r window ram at size past x = by (ram_stored window at size past) (store_le (width_of size) ram at x)
  where
    by : (t : Result Unit Fault) (after : List ℕ) → after_if t after ram ≡ outcome_ram ram (store_with r t (after_if t after ram))
    by (Ok t) after = refl
    by (Err fault) after = refl

pub stack_ram : (r : Record) (window : Window) (ram : List ℕ) (address x : ℕ)
    → after_stack_store window ram address x ≡ outcome_ram ram (store_with r (stack_stored window address) (after_stack_store window ram address x))
unfolding stack_stored after_stack_store store_with outcome_ram
stack_ram r window ram address x = by (ltb address 0x10000)
  where
    after : List ℕ
    after = ram_after window ram (address - 0x10000) Word PastStack x

    by : (t : Bool)
        → cond t ram after
        ≡ outcome_ram ram (store_with r (cond t (Err LowStack) (ram_stored window (address - 0x10000) Word PastStack)) (cond t ram after))
    by true = refl
    by false = ram_by r window ram (address - 0x10000) Word PastStack x

pub base_ram : (r : Record) (window : Window) (ram : List ℕ) (b : Base) (imm12 : ℕ) (size : Size) (x : ℕ)
    → after_store_by b window ram imm12 size x ≡ outcome_ram ram (store_with r (stored_by b window imm12 size) (after_store_by b window ram imm12 size x))
unfolding stored_by after_store_by store_with outcome_ram
base_ram r window ram Nothing imm12 size x = refl
base_ram r window ram (Ram o) imm12 size x = ram_by r window ram (o + imm12) size PastRam x
base_ram r window ram (External o) imm12 size x = refl
