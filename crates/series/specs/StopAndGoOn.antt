-- Stop and go on: what is claimed of a run that is cut into slices of budget, as 02 calls them.
use Rattle.std.specs.Prelude.{ℕ, ◌+◌, ◌≤◌, List, [], ◌∷◌, ◌≡◌}
use Rattle.stop.specs.Stops.{budget}
use Rattle.plain.specs.PlainMachine.{Result, later}
use Rattle.series.specs.Machine.{Machine, Accepts}
use Rattle.series.specs.Series.{State, gave_state, From}

module _ (m : Machine) where
  -- a call stopped because its budget was spent, so it was not refused
  abbrev pub Spent : m.Call → Type 0
  Spent c = (m.gave c).stop ≡ budget

  -- slices: the first call is from here, each other from the record and RAM of the one before, which stopped because its budget was
  -- spent. The last stopped so or otherwise
  abbrev pub Slices : State → m.Call → List m.Call → Type 0
  Slices s c [] = From m s c
  Slices s c (next ∷ cs) = From m s c × Spent c × Slices (gave_state m c) next cs

  -- their budgets added up
  abbrev pub budgets : m.Call → List m.Call → ℕ
  budgets c [] = (m.handed c).budget
  budgets c (next ∷ cs) = (m.handed c).budget + budgets next cs

  -- what they come to: stop, record and RAM of the last, and the steps of all added up
  abbrev pub together : m.Call → List m.Call → Result
  together c [] = m.gave c
  together c (next ∷ cs) = later (m.gave c).steps (together next cs)

  abbrev pub NoneRefused : List m.Call → Type 0
  NoneRefused [] = Unit {0}
  NoneRefused (c ∷ cs) = Accepts m (m.handed c) × NoneRefused cs

  -- for budgets of any size; those of the code's calls, sums too, are at most 4,294,967,295
  pub record StopAndGoOn : Type 0 where
    -- a run of budget a, stopped because a was spent, and a run from its record and RAM with budget b end as one run with budget a + b
    pub goes_on : (s : State) (first second whole : m.Call) → From m s first → Spent first → From m (gave_state m first) second
        → From m s whole → (m.handed whole).budget ≡ (m.handed first).budget + (m.handed second).budget
        → m.gave whole ≡ later (m.gave first).steps (m.gave second)
    -- and the second is not refused
    pub not_refused : (s : State) (first second : m.Call) → From m s first → Spent first → From m (gave_state m first) second
        → Accepts m (m.handed second)
    -- if the first stopped otherwise, by a service, a fault or a refusal, a larger budget changes nothing
    pub larger : (s : State) (first longer : m.Call) → From m s first → (Spent first → ⊥)
        → From m s longer → (m.handed first).budget ≤ (m.handed longer).budget → m.gave longer ≡ m.gave first
    -- so any slices are one run with the sum of their budgets
    pub slices : (s : State) (first : m.Call) (rest : List m.Call) (whole : m.Call) → Slices s first rest
        → From m s whole → (m.handed whole).budget ≡ budgets first rest → m.gave whole ≡ together first rest
    -- none of them but the first can be refused
    pub none_refused : (s : State) (first : m.Call) (rest : List m.Call) → Slices s first rest → NoneRefused rest
    -- and if the last of them stopped otherwise, they are one run with any larger budget too
    pub slices_larger : (s : State) (first : m.Call) (rest : List m.Call) (longer : m.Call) → Slices s first rest
        → ((together first rest).stop ≡ budget → ⊥)
        → From m s longer → budgets first rest ≤ (m.handed longer).budget → m.gave longer ≡ together first rest
