-- What demand 3 claims of a series.
use Rattle.std.specs.Prelude.{ℕ, ◌-◌, ◌≤◌, List, [], ◌∷◌, map, ◌≡◌}
use Rattle.memory.specs.Faults.{fault_number}
use Rattle.memory.specs.declared.Fault.{Fault}
use Rattle.stop.specs.Stops.{Reason, budget, service, fault, unlisted, refused}
use Rattle.plain.specs.PlainMachine.{Result, faults}
use Rattle.series.specs.HandedOn.{InSeries, own, other, call_in, left_by, left_by_all}
use Rattle.series.specs.Machine.{Handed, Machine, Refuses, Accepts, refused_by, run}
use Rattle.series.specs.Series.{State, state_of, gave_state, fed, plain_results, plain_state}

module _ (m : Machine) where
  -- ---- a call that was handed h and gave x

  -- entry i of its trace is the record of a run with budget i
  abbrev pub entry : Handed m.kind.Setting → ℕ → Result
  entry h i = run m i h.rec h.ram

  -- the instruction that stands there meets the fault of this number, which is one of the papers'
  pub record FaultAt (s : State) (n : ℕ) : Type 0 where
    pub met : Fault
    pub meets : m.kind.instruction m.setting s.rec s.ram ≡ faults met
    pub number : n ≡ fault_number met
    pub known : m.kind.Known n

  -- it stops as "budget" only when all of it is spent; at a service that stands at the last executed place; or by a fault, which the
  -- instruction meets that stands where it stopped
  abbrev pub StopsBy : Handed m.kind.Setting → Result → Reason → Type 0
  StopsBy h x budget = x.steps ≡ h.budget
  StopsBy h x (service exit) = (1 ≤ x.steps) × m.kind.ServiceAt m.setting (entry h (x.steps - 1)).rec exit
  StopsBy h x (fault n) = FaultAt (state_of x) n
  StopsBy h x unlisted = ⊥
  StopsBy h x (refused n values) = ⊥

  pub record OwnCall (h : Handed m.kind.Setting) (x : Result) : Type 0 where
    -- it is not refused
    pub accepted : Accepts m h
    pub stops : StopsBy h x x.stop
    -- its trace has steps + 1 entries, and at each of them a listed instruction starts
    pub trace : (i : ℕ) → i ≤ x.steps → ((entry h i).steps ≡ i) × m.kind.Starts m.setting (entry h i).rec

  -- another call is refused by its table, and gives back what it was handed
  pub record OtherCall (h : Handed m.kind.Setting) (x : Result) : Type 0 where
    pub refuses : Refuses m h
    pub gives : x ≡ refused_by m refuses.0 refuses.1 h

  -- ---- a series from a state

  abbrev pub SoundCall : InSeries m.Call → Type 0
  SoundCall (own c) = OwnCall (m.handed c) (m.gave c)
  SoundCall (other series_record series_ram c) = OtherCall (m.handed c) (m.gave c)

  -- every call is so, and before, between and after them a listed instruction starts at the place that stands
  abbrev pub Sound : List (InSeries m.Call) → State → Type 0
  Sound [] s = m.kind.Starts m.setting s.rec
  Sound (c ∷ cs) s = m.kind.Starts m.setting s.rec × SoundCall c × Sound cs (left_by (gave_state m) c s)

  pub record Demand3 (cs : List (InSeries m.Call)) (s : State) : Type 0 where
    pub sound : Sound cs s
    -- stop, steps, record and every byte of RAM of every call are the plain machine's
    pub gives : map (λ c. m.gave (call_in c)) cs ≡ plain_results m (map (fed m) cs) s
    -- and so is the state after the last call, a refused one too
    pub leaves : left_by_all (gave_state m) cs s ≡ plain_state m (map (fed m) cs) s
