-- What the theorems ask of a machine, and of a kind of machine.
use Prim.Native.Nat.{ℕ}
use mathlib.Core.List.{List}
use mathlib.Core.Path.{◌≡◌}
use Rattle.refusal.specs.Refusals.{accepted}
use Rattle.memory.specs.Faults.{fault_number}
use Rattle.state.specs.declared.Record.{Record}
use Rattle.stop.specs.Stops.{Exit}
use Rattle.plain.specs.PlainMachine.{Effect, goes_on, exits, faults, unlisted, Result}
use Rattle.plain.proofs.Runs.{Leaves, run_keeps}
use Rattle.series.specs.Machine.{Handed, Kind, called_by, Machine, machine_of, Admits, called, run}

-- an instruction goes on or exits with a fit record and RAM, an exit being by a service that stands there, or meets a known fault
abbrev pub Keeps : (Fit : Record → List ℕ → Type 0) → (ServiceHere : Exit → Type 0) → (Known : ℕ → Type 0) → Effect → Type 0
Keeps Fit ServiceHere Known (goes_on r ram) = Fit r ram
Keeps Fit ServiceHere Known (exits exit r ram) = Fit r ram × ServiceHere exit
Keeps Fit ServiceHere Known (faults f) = Known (fault_number f)
Keeps Fit ServiceHere Known unlisted = ⊥

keeps_leaves : (Fit : Record → List ℕ → Type 0) (ServiceHere : Exit → Type 0) (Known : ℕ → Type 0) (e : Effect)
    → Keeps Fit ServiceHere Known e → Leaves Fit e
keeps_leaves Fit ServiceHere Known (goes_on r ram) h = h
keeps_leaves Fit ServiceHere Known (exits exit r ram) h = h.0
keeps_leaves Fit ServiceHere Known (faults f) h = tt
keeps_leaves Fit ServiceHere Known unlisted h = tt

-- if what is fit in one sense is fit in another, what keeps the first keeps the second
pub keeps_too : (Fit Fit' : Record → List ℕ → Type 0) (ServiceHere : Exit → Type 0) (Known : ℕ → Type 0)
    → ((r : Record) (ram : List ℕ) → Fit r ram → Fit' r ram)
    → (e : Effect) → Keeps Fit ServiceHere Known e → Keeps Fit' ServiceHere Known e
keeps_too Fit Fit' ServiceHere Known too (goes_on r ram) h = too r ram h
keeps_too Fit Fit' ServiceHere Known too (exits exit r ram) h = (too r ram h.0, h.1)
keeps_too Fit Fit' ServiceHere Known too (faults f) h = h
keeps_too Fit Fit' ServiceHere Known too unlisted h = h

pub record KeepsAdmitted (m : Machine) : Type 0 where
  -- where a call isn't refused, it isn't after an instruction either; and a listed one starts there
  pub keeps : (r : Record) (ram : List ℕ) → Admits m r ram
      → Keeps (Admits m) (m.kind.ServiceAt m.setting r) m.kind.Known (m.kind.instruction m.setting r ram)
  pub starts : (r : Record) (ram : List ℕ) → Admits m r ram → m.kind.Starts m.setting r
  -- a call meets its contract
  pub meets : (c : m.Call) → m.gave c ≡ called m (m.handed c)

-- the same of a kind, with every setting
pub record KeepsAll (kind : Kind) : Type 0 where
  pub keeps : (setting : kind.Setting) (r : Record) (ram : List ℕ) → kind.decision setting r ram ≡ accepted
      → Keeps (λ s after. kind.decision setting s after ≡ accepted) (kind.ServiceAt setting r) kind.Known (kind.instruction setting r ram)
  pub starts : (setting : kind.Setting) (r : Record) (ram : List ℕ) → kind.decision setting r ram ≡ accepted → kind.Starts setting r

-- a machine of such a kind is asked no more than that its calls meet their contract
pub keeps_admitted : (kind : Kind) → KeepsAll kind → (Call : Type 0) (handed : Call → Handed kind.Setting) (gave : Call → Result)
    → ((c : Call) → gave c ≡ called_by kind (handed c)) → (setting : kind.Setting) → KeepsAdmitted (machine_of kind Call handed gave setting)
keeps_admitted kind k Call handed gave meets setting = record { keeps = k.keeps setting; starts = k.starts setting; meets = meets }

-- what a run leaves is not refused either
pub admits_after : (m : Machine) → KeepsAdmitted m → (total : ℕ) (r : Record) (ram : List ℕ) → Admits m r ram
    → Admits m (run m total r ram).rec (run m total r ram).ram
admits_after m k total r ram a =
    run_keeps (m.kind.instruction m.setting) (Admits m)
    (λ s after b. keeps_leaves (Admits m) (m.kind.ServiceAt m.setting s) m.kind.Known (m.kind.instruction m.setting s after) (k.keeps s after b))
    total 0 r ram a
