-- The build paper's series of calls, and its plain machine, which is fed what the calls are handed.
use Rattle.std.specs.Prelude.{List, [], ◌∷◌, ◌≡◌}
use Rattle.state.specs.declared.Record.{Record}
use Rattle.plain.specs.PlainMachine.{Result}
use Rattle.series.specs.HandedOn.{Standing, InSeries, own, other, HandedOn}
use Rattle.series.specs.Machine.{Handed, Machine, Refuses, called, run}

-- the build paper's state: record and RAM
abbrev pub State : Type 0
State = Standing Record

abbrev pub state_of : Result → State
state_of x = record { rec = x.rec; ram = x.ram }

module _ (m : Machine) where
  -- ---- a series

  -- what a call is handed of the series, and what it leaves
  abbrev pub handed_state : m.Call → State
  handed_state c = record { rec = (m.handed c).rec; ram = (m.handed c).ram }

  abbrev pub gave_state : m.Call → State
  gave_state c = state_of (m.gave c)

  abbrev pub OwnSetting : m.Call → Type 0
  OwnSetting c = (m.handed c).setting ≡ m.setting

  -- a call from this record and RAM; all else that is given, its budget aside, is the machine's setting
  abbrev pub From : State → m.Call → Type 0
  From s c = OwnSetting c × (handed_state c ≡ s)

  -- its own calls get the one setting; the others are calls that the papers refuse
  abbrev pub Series : List (InSeries m.Call) → State → Type 0
  Series = HandedOn gave_state handed_state OwnSetting (λ c. Refuses m (m.handed c))

  -- ---- the plain machine

  -- what it is fed
  abbrev pub fed : InSeries m.Call → InSeries (Handed m.kind.Setting)
  fed (own c) = own (m.handed c)
  fed (other series_record series_ram c) = other series_record series_ram (m.handed c)

  -- for an own call it runs from its own state with the budget handed
  abbrev pub plain_result : InSeries (Handed m.kind.Setting) → State → Result
  plain_result (own h) s = run m h.budget s.rec s.ram
  plain_result (other series_record series_ram h) s = called m h

  -- a refused call keeps the state
  abbrev pub plain_after : InSeries (Handed m.kind.Setting) → State → State
  plain_after (own h) s = state_of (plain_result (own h) s)
  plain_after (other series_record series_ram h) s = s

  -- what it gives for each call
  unfoldable pub plain_results : List (InSeries (Handed m.kind.Setting)) → State → List Result
  plain_results [] s = []
  plain_results (h ∷ hs) s = plain_result h s ∷ plain_results hs (plain_after h s)

  -- its state after the last
  unfoldable pub plain_state : List (InSeries (Handed m.kind.Setting)) → State → State
  plain_state [] s = s
  plain_state (h ∷ hs) s = plain_state hs (plain_after h s)
