-- A host's calls keep to their window.
use Prim.Native.Nat.{ℕ}
use mathlib.Core.Bool.{Bool, true, false, cond}
use mathlib.Core.List.{List}
use mathlib.Core.Path.{◌≡◌, refl, ap, subst, ◌∙◌}
use Rattle.window.specs.Windows.{EqualInside, EqualOutside}
use Rattle.window.proofs.Rams.{equal_same}
use Rattle.plain.specs.PlainMachine.{Result}
use Rattle.plain.specs.EqualBut.{EqualBut}
use Rattle.layout.specs.StoredForm.{record_bytes, record_in, holds_record}
use Rattle.series.specs.Machine.{called_by}
use Rattle.series.specs.Windows.{ram_alone}
use Rattle.series.proofs.Windows.{rams_stay, called_outside, called_equal, keeps_to_window}
use Rattle.crossing.specs.Numbers.{refused_with, stop_numbers}
use Rattle.refusal.specs.Refusals.{decision}
use Rattle.hosting.specs.Crossed.{Crossed, crossing, no_record_rules}
use Rattle.host_series.specs.Host.{Host}
use Rattle.host_series.specs.HostSeries.{RecordCall, handed_record, gave_record, RefusesHost}
use Rattle.host_series.specs.HostWindows.{EqualCrossed, window_lent, HostWindows}
use Rattle.host_series.proofs.HostCalls.{crossed_from, MeetsHost, crossed_ran, keeps_bytes, host_keeps}

module _ (host : Host) (m : MeetsHost host) where
  -- ---- bytes outside

  -- a call leaves them, whether or not its bytes hold a record
  call_stays : (c : host.Call) → EqualOutside (window_lent host c) (host.lent c).ram (host.crossed c).ram
  call_stays c = go (holds_record (host.lent c).bytes) refl
    where
      go : (t : Bool) → holds_record (host.lent c).bytes ≡ t → EqualOutside (window_lent host c) (host.lent c).ram (host.crossed c).ram
      go true e =
          let held : RecordCall host = record { call = c; holds = e } in
          rw (crossed_ran host m held) (called_outside host.kind m.within (handed_record host held))
      go false e = rw (keeps_bytes host m c e) (equal_same _ (host.lent c).ram)

  -- a refused one leaves all of RAM
  refused_stays : (c : host.Call) → RefusesHost host (host.lent c).setting c → (host.crossed c).ram ≡ (host.lent c).ram
  refused_stays c why = go (holds_record (host.lent c).bytes) refl
    where
      go : (t : Bool) → holds_record (host.lent c).bytes ≡ t → (host.crossed c).ram ≡ (host.lent c).ram
      go true e = ap (λ (x : Crossed). x.ram) (crossed_ran host m (record { call = c; holds = e })) ∙ rw (why e).2
      go false e = rw (keeps_bytes host m c e)

  -- ---- two calls

  crossed_equal : (setting : host.kind.Setting) (total : ℕ) (bytes a b : List ℕ) → EqualInside (host.kind.window setting) a b
      → EqualCrossed (host.kind.window setting) (crossed_from host (record { setting = setting; budget = total; bytes = bytes; ram = a }))
      (crossed_from host (record { setting = setting; budget = total; bytes = bytes; ram = b }))
  crossed_equal setting total bytes a b e = go (holds_record bytes)
    where
      run : List ℕ → Result
      run ram = called_by host.kind (record { setting = setting; budget = total; rec = record_in bytes; ram = ram })

      ran : EqualBut (EqualInside (host.kind.window setting)) (run a) (run b)
      ran = called_equal host.kind m.within setting total (record_in bytes) a b e

      none : List ℕ → Crossed
      none ram = record { stop = refused_with (decision (no_record_rules (host.areas setting ram) bytes)); steps = 0; bytes = bytes; ram = ram }

      go : (t : Bool) → EqualCrossed (host.kind.window setting) (cond t (crossing (run a)) (none a)) (cond t (crossing (run b)) (none b))
      go true = record { stop = ap stop_numbers ran.stop; steps = ran.steps; bytes = ap record_bytes ran.rec; ram = ran.ram }
      go false = record {
        stop = ap (λ areas. refused_with (decision (no_record_rules areas bytes))) (m.by_length setting a b e.0);
        steps = refl;
        bytes = refl;
        ram = e;
      }

  calls_equal : (c d : host.Call) → (host.lent c).setting ≡ (host.lent d).setting → (host.lent c).budget ≡ (host.lent d).budget
      → (host.lent c).bytes ≡ (host.lent d).bytes → EqualInside (window_lent host c) (host.lent c).ram (host.lent d).ram
      → EqualCrossed (window_lent host c) (host.crossed c) (host.crossed d)
  calls_equal c d setting budget bytes ram =
      rw (m.meets c, m.meets d, ← setting, ← budget, ← bytes)
      (crossed_equal (host.lent c).setting (host.lent c).budget (host.lent c).bytes (host.lent c).ram (host.lent d).ram ram)

  pub host_windows : (setting : host.kind.Setting) → HostWindows host setting
  host_windows setting = record {
    keeps_to_window =
        keeps_to_window host.kind m.within (RecordCall host) (handed_record host) (gave_record host) setting (host_keeps host m setting);
    outside_stays = λ w cs ram h.
        rams_stay (λ c. ram_alone (host.crossed c).ram) (λ c. ram_alone (host.lent c).ram) (λ c. window_lent host c ≡ w)
        (λ c. RefusesHost host (host.lent c).setting c) w
        (λ c e. subst (λ x. EqualOutside x (host.lent c).ram (host.crossed c).ram) e (call_stays c)) refused_stays cs (ram_alone ram) h;
    equal_calls = calls_equal;
  }
