-- The machine that demand 3, stop and go on, and the claims on windows speak of: any instruction, any table of refusals, any calls.
use Rattle.std.specs.Prelude.{ℕ, List, ◌≡◌}
use Rattle.refusal.specs.Refusals.{Decision, accepted, refused}
use Rattle.window.specs.declared.Window.{Window}
use Rattle.state.specs.declared.Record.{Record}
use Rattle.stop.specs.Stops.{Exit}
use Rattle.stop.specs.Stops as stops
use Rattle.plain.specs.PlainMachine.{Effect, Result, plain}
use Rattle.plain.specs.Calls.{call_by}

-- what a call is handed; `setting` is what it takes beside its budget, the record and RAM. A step is a run with budget 1
pub record Handed (Setting : Type 0) : Type 0 where
  pub setting : Setting
  pub budget : ℕ
  pub rec : Record
  pub ram : List ℕ

-- a kind of machine: all of one but its calls, and the setting that a series' own calls get
pub record Kind : Type 1 where
  pub Setting : Type 0
  pub instruction : Setting → Record → List ℕ → Effect
  pub decision : Setting → Record → List ℕ → Decision
  -- the part of RAM that a call may read and write
  pub window : Setting → Window
  -- a listed instruction starts at the record's place
  pub Starts : Setting → Record → Type 0
  -- a service stands there that exits so
  pub ServiceAt : Setting → Record → Exit → Type 0
  -- the papers have a fault of this number
  pub Known : ℕ → Type 0

-- the plain machine's run, or the refusal
abbrev pub called_by : (kind : Kind) → Handed kind.Setting → Result
called_by kind h =
    call_by (kind.decision h.setting h.rec h.ram) (kind.instruction h.setting) h.budget h.rec h.ram

-- a machine of a kind, with any calls: what each was handed and what it gave
pub record Machine : Type 1 where
  pub kind : Kind
  -- what a series' own calls and all slices get
  pub setting : kind.Setting
  pub Call : Type 0
  pub handed : Call → Handed kind.Setting
  pub gave : Call → Result

abbrev pub machine_of : (kind : Kind) (Call : Type 0) → (Call → Handed kind.Setting) → (Call → Result) → kind.Setting → Machine
machine_of kind Call handed gave setting = record { kind = kind; setting = setting; Call = Call; handed = handed; gave = gave }

module _ (m : Machine) where
  abbrev pub decision_on : Handed m.kind.Setting → Decision
  decision_on h = m.kind.decision h.setting h.rec h.ram

  -- the papers refuse a call that is handed this, or they don't
  abbrev pub Refuses : Handed m.kind.Setting → Type 0
  Refuses h = (n : ℕ) × (values : List ℕ) × (decision_on h ≡ refused n values)

  abbrev pub Accepts : Handed m.kind.Setting → Type 0
  Accepts h = decision_on h ≡ accepted

  -- a call with the machine's setting isn't refused from here
  abbrev pub Admits : Record → List ℕ → Type 0
  Admits r ram = m.kind.decision m.setting r ram ≡ accepted

  -- refused, its steps are 0 and its stop is the refusal's number with its values; it gives back what it was handed
  abbrev pub refused_by : ℕ → List ℕ → Handed m.kind.Setting → Result
  refused_by n values h = record { stop = stops.refused n values; steps = 0; rec = h.rec; ram = h.ram }

  abbrev pub called : Handed m.kind.Setting → Result
  called = called_by m.kind

  -- a run that isn't refused
  abbrev pub run : ℕ → Record → List ℕ → Result
  run budget r ram = plain (m.kind.instruction m.setting) budget 0 r ram
