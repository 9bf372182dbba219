-- What the code gives back, as the outcome that it stands for.
use Prim.Native.Nat.{ℕ, ◌+◌, ◌-◌, ◌*◌}
use mathlib.Core.Bool.{Bool, true, false, cond}
use mathlib.Core.List.{List}
use mathlib.Core.Path.{◌≡◌, refl}
use lib.Dec.{ltb}
use Rattle.memory.specs.declared.Fault.TheVariants.{LowStack}
use Rattle.writing.specs.Writes.{writes_nothing, writing_sp}
use Rattle.state.specs.declared.Record.{Record}
use Rattle.access.specs.Outcomes.{Outcome, does, fails, did_of, outcome_ram}
use Rattle.effects.specs.ServiceEffects.{none_did, leaves_none, lower_sp}

pub lower_ram : (r : Record) (ram : List ℕ) (words : ℕ) → ram ≡ outcome_ram ram (lower_sp r ram words)
unfolding lower_sp outcome_ram
lower_ram r ram words = by (ltb r.sp (0x10000 + 4 * words))
  where
    by : (t : Bool) → ram ≡ outcome_ram ram (cond t (fails LowStack) (does (writing_sp (writes_nothing r) (r.sp - 4 * words)) ram))
    by true = refl
    by false = refl

pub none_did_lem : (o : Outcome) → none_did (did_of o) ≡ did_of (leaves_none o)
unfolding none_did leaves_none did_of
none_did_lem (does w ram) = refl
none_did_lem (fails f) = refl

pub none_ram : (ram : List ℕ) (o : Outcome) → outcome_ram ram o ≡ outcome_ram ram (leaves_none o)
unfolding leaves_none outcome_ram
none_ram ram (does w after) = refl
none_ram ram (fails f) = refl
