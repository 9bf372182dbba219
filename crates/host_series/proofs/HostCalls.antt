-- What is asked of a host's calls, and what one of them gives.
use Prim.Native.Nat.{ℕ}
use mathlib.Core.Bool.{true, false}
use mathlib.Core.List.{List, []}
use mathlib.Core.Path.{◌≡◌, refl, ◌∙◌}
use lib.ListN.{length}
use Rattle.refusal.specs.Refusals.{Decision, accepted, refused}
use Rattle.state.specs.declared.Record.{Record}
use Rattle.plain.specs.PlainMachine.{Result, plain}
use Rattle.plain.specs.Calls.{call_by}
use Rattle.layout.specs.StoredForm.{holds_record, Held}
use Rattle.layout.proofs.Theorems.{record_holds, record_kept}
use Rattle.series.specs.Machine.{Handed, called_by}
use Rattle.series.proofs.Keeps.{KeepsAdmitted, KeepsAll, keeps_admitted}
use Rattle.series.proofs.Windows.{WithinWindow}
use Rattle.hosting.specs.Crossed.{Crossed, crossing, host_call}
use Rattle.host_series.specs.Host.{Lent, Bytes, Host}
use Rattle.host_series.specs.HostSeries.{RecordCall, handed_record, gave_record, host_machine, KeepsBytes}
use Rattle.host_series.proofs.HeldAfter.{record_held}
use Rattle.host_series.proofs.Refused.{NoValues, values_in, call_no_values, stop_back}

-- what comes back, by the contract, of what is lent
abbrev pub crossed_from : (host : Host) → Lent host.kind.Setting → Crossed
crossed_from host l =
    host_call (host.areas l.setting l.ram)
    (λ r. called_by host.kind (record { setting = l.setting; budget = l.budget; rec = r; ram = l.ram })) l.bytes l.ram

pub record MeetsHost (host : Host) : Type 0 where
  -- of the kind of machine: it leaves what isn't refused, and keeps to windows
  pub keeps : KeepsAll host.kind
  pub within : WithinWindow host.kind
  -- no refusal carries a value
  pub no_values : (setting : host.kind.Setting) (r : Record) (ram : List ℕ) → values_in (host.kind.decision setting r ram) ≡ []
  -- what is refused before the record doesn't look at RAM's bytes
  pub by_length : (setting : host.kind.Setting) (a b : List ℕ) → length a ≡ length b → host.areas setting a ≡ host.areas setting b
  -- a call meets its contract
  pub meets : (c : host.Call) → host.crossed c ≡ crossed_from host (host.lent c)
  -- what it is lent of a record is bytes
  pub lent_bytes : (c : host.Call) → Bytes (host.lent c).bytes
  -- a run with what it is lent, if it isn't refused, leaves a record whose parts keep to their widths
  pub held : (c : host.Call) (r : Record) → host.kind.decision (host.lent c).setting r (host.lent c).ram ≡ accepted → Held r
      → Held (plain (host.kind.instruction (host.lent c).setting) (host.lent c).budget 0 r (host.lent c).ram).rec

module _ (host : Host) (m : MeetsHost host) where
  module _ (c : RecordCall host) where
    abbrev h : Handed host.kind.Setting
    h = handed_record host c

    abbrev decided : Decision
    decided = host.kind.decision h.setting h.rec h.ram

    abbrev ran : Result
    ran = called_by host.kind h

    ran-held : Held ran.rec
    ran-held = go decided refl
      where
        before : Held h.rec
        before = record_held (host.lent c.call).bytes (m.lent_bytes c.call)

        go : (d : Decision) → decided ≡ d → Held (call_by d (host.kind.instruction h.setting) h.budget h.rec h.ram).rec
        go accepted e = m.held c.call h.rec e before
        go (refused n values) e = before

    ran-no-values : NoValues ran.stop
    ran-no-values =
        call_no_values decided (m.no_values h.setting h.rec h.ram) (host.kind.instruction h.setting) h.budget h.rec h.ram

    pub crossed_ran : host.crossed c.call ≡ crossing ran
    crossed_ran = m.meets c.call ∙ rw c.holds

    -- what comes back holds a record
    pub left_holds : holds_record (host.crossed c.call).bytes ≡ true
    left_holds = rw crossed_ran (record_holds ran.rec ran-held)

    -- and is the result of the record that was lent
    pub gave_ran : gave_record host c ≡ ran
    gave_ran =
        rw crossed_ran
        (λ i. record { stop = stop_back ran.stop ran-no-values i; steps = ran.steps; rec = record_kept ran.rec ran-held i; ram = ran.ram })

  pub keeps_bytes : (c : host.Call) → holds_record (host.lent c).bytes ≡ false → KeepsBytes host c
  keeps_bytes c e = m.meets c ∙ rw e

  pub host_keeps : (setting : host.kind.Setting) → KeepsAdmitted (host_machine host setting)
  host_keeps = keeps_admitted host.kind m.keeps (RecordCall host) (handed_record host) (gave_record host) gave_ran
