-- A host's calls in a row, each handed the bytes that the one before left, and what is claimed of them: demand 3, of the records in
-- those bytes.
use Rattle.std.specs.Prelude.{ℕ, Bool, true, false, List, [], ◌∷◌, map, ◌≡◌, refl}
use Rattle.plain.specs.PlainMachine.{Result}
use Rattle.layout.specs.StoredForm.{record_in, holds_record}
use Rattle.series.specs.HandedOn.{Standing, InSeries, own, other, call_in, left_by, left_by_all, HandedOn}
use Rattle.series.specs.Machine.{Handed, Machine, machine_of, Refuses}
use Rattle.series.specs.Series.{State, fed, plain_state}
use Rattle.series.specs.Demand3.{Demand3}
use Rattle.refusal.specs.Refusals.{decision}
use Rattle.crossing.specs.Numbers.{refused_with}
use Rattle.hosting.specs.Crossed.{no_record_rules}
use Rattle.host_series.specs.Host.{Host, result_in}

-- what stands between two calls, by the bytes that are handed on
abbrev pub ByteState : Type 0
ByteState = Standing (List ℕ)

abbrev pub state_in : ByteState → State
state_in s = record { rec = record_in s.rec; ram = s.ram }

module _ (host : Host) where
  -- ---- the machine of demand 3, called by a host

  -- a call whose bytes hold a record
  pub record RecordCall : Type 0 where
    pub call : host.Call
    pub holds : holds_record (host.lent call).bytes ≡ true

  abbrev pub handed_record : RecordCall → Handed host.kind.Setting
  handed_record c = record {
    setting = (host.lent c.call).setting;
    budget = (host.lent c.call).budget;
    rec = record_in (host.lent c.call).bytes;
    ram = (host.lent c.call).ram;
  }

  abbrev pub gave_record : RecordCall → Result
  gave_record c = result_in (host.crossed c.call)

  abbrev pub host_machine : host.kind.Setting → Machine
  host_machine = machine_of host.kind RecordCall handed_record gave_record

  -- ---- a series

  abbrev pub lent_state : host.Call → ByteState
  lent_state c = record { rec = (host.lent c).bytes; ram = (host.lent c).ram }

  abbrev pub crossed_state : host.Call → ByteState
  crossed_state c = record { rec = (host.crossed c).bytes; ram = (host.crossed c).ram }

  -- its bytes hold no record, or the papers refuse the one that they hold
  abbrev pub RefusesHost : host.kind.Setting → host.Call → Type 0
  RefusesHost setting c =
      (holds : holds_record (host.lent c).bytes ≡ true) → Refuses (host_machine setting) (handed_record (record { call = c; holds = holds }))

  abbrev pub HostSeries : host.kind.Setting → List (InSeries host.Call) → ByteState → Type 0
  HostSeries setting = HandedOn crossed_state lent_state (λ c. (host.lent c).setting ≡ setting) (RefusesHost setting)

  -- the calls whose bytes hold a record
  abbrev pub if_held : (c : host.Call) (t : Bool) → holds_record (host.lent c).bytes ≡ t
      → (RecordCall → InSeries RecordCall) → List (InSeries RecordCall) → List (InSeries RecordCall)
  if_held c true holds how cs = how (record { call = c; holds = holds }) ∷ cs
  if_held c false none how cs = cs

  abbrev pub record_calls : List (InSeries host.Call) → List (InSeries RecordCall)
  record_calls [] = []
  record_calls (own c ∷ cs) = if_held c (holds_record (host.lent c).bytes) refl own (record_calls cs)
  record_calls (other series_record series_ram c ∷ cs) =
      if_held c (holds_record (host.lent c).bytes) refl (other series_record series_ram) (record_calls cs)

  -- ---- the claim

  -- a call whose bytes hold none is refused by what stands before the record, or by 255 with the position, and changes no byte
  abbrev pub KeepsBytes : host.Call → Type 0
  KeepsBytes c = host.crossed c ≡ record {
    stop = refused_with (decision (no_record_rules (host.areas (host.lent c).setting (host.lent c).ram) (host.lent c).bytes));
    steps = 0;
    bytes = (host.lent c).bytes;
    ram = (host.lent c).ram;
  }

  -- before, between and after the calls the bytes that stand hold a record
  abbrev pub Crosses : List (InSeries host.Call) → ByteState → Type 0
  Crosses [] s = holds_record s.rec ≡ true
  Crosses (c ∷ cs) s =
      (holds_record s.rec ≡ true)
      × (holds_record (host.lent (call_in c)).bytes ≡ false → KeepsBytes (call_in c))
      × Crosses cs (left_by crossed_state c s)

  pub record HostDemand3 (setting : host.kind.Setting) (cs : List (InSeries host.Call)) (s : ByteState) : Type 0 where
    pub crosses : Crosses cs s
    pub demand3 : Demand3 (host_machine setting) (record_calls cs) (state_in s)
    -- the record in the bytes after the last call, and RAM, are the plain machine's
    pub leaves : state_in (left_by_all crossed_state cs s)
        ≡ plain_state (host_machine setting) (map (fed (host_machine setting)) (record_calls cs)) (state_in s)
