-- What an access keeps.
use Rattle.memory.specs.declared.Fault.{Fault}
use Rattle.std.specs.Prelude.{Result, Ok, Err}
use Prim.Native.Nat.{ℕ, ◌-◌}
use mathlib.Core.Bool.{Bool, true, false, cond}
use mathlib.Core.List.{List}
use mathlib.Core.Path.{◌≡◌, refl}
use lib.Dec.{ltb}
use Rattle.endian.specs.LittleEndian.{width_of, store_le}
use Rattle.endian.specs.declared.Size.{Size}
use Rattle.endian.specs.declared.Size.TheVariants.{Word}
use Rattle.window.specs.declared.Window.{Window}
use Rattle.memory.specs.Memory.{ram_after}
use Rattle.memory.proofs.Ram.{ram_keeps}
use Rattle.memory.specs.declared.Fault.TheVariants.{PastStack}
use Rattle.state.specs.declared.Record.{Record}
use Rattle.access.specs.Outcomes.{load_to, outcome_ram}
use Rattle.access.specs.LoadsAndStores.{after_stack_store}

-- a load changes no RAM
pub load_ram : (r : Record) (ram : List ℕ) (t : ℕ) (l : Result ℕ Fault) → ram ≡ outcome_ram ram (load_to r ram t l)
unfolding load_to outcome_ram
load_ram r ram t (Ok x) = refl
load_ram r ram t (Err f) = refl

-- what every store keeps, one on the stack does
pub stack_keeps : (P : List ℕ → Type 0) (window : Window) (ram : List ℕ) (x : ℕ) → P ram
    → ((at : ℕ) (size : Size) → P (store_le (width_of size) ram at x)) → (address : ℕ) → P (after_stack_store window ram address x)
unfolding after_stack_store
stack_keeps P window ram x h kept address = go (ltb address 0x10000)
  where
    go : (t : Bool) → P (cond t ram (ram_after window ram (address - 0x10000) Word PastStack x))
    go true = h
    go false = ram_keeps P window ram x h kept (address - 0x10000) Word PastStack
