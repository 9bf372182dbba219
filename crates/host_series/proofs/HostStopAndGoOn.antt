-- Stop and go on is met, by a host's calls.
use mathlib.Core.Bool.{false}
use mathlib.Core.Path.{◌≡◌, sym, ap, ◌∙◌}
use Rattle.layout.specs.StoredForm.{holds_record}
use Rattle.series.proofs.StopAndGoOn.{stop_and_go_on}
use Rattle.hosting.specs.Crossed.{crossing}
use Rattle.host_series.specs.Host.{Host}
use Rattle.host_series.specs.HostSeries.{ByteState, host_machine, lent_state}
use Rattle.host_series.specs.HostStopAndGoOn.{HostStopAndGoOn}
use Rattle.host_series.proofs.HostCalls.{MeetsHost, crossed_ran, left_holds, gave_ran, keeps_bytes, host_keeps}

module _ (host : Host) (m : MeetsHost host) where
  same_kept : (c other : host.Call) → (host.lent other).setting ≡ (host.lent c).setting → lent_state host other ≡ lent_state host c
      → holds_record (host.lent c).bytes ≡ false → host.crossed other ≡ host.crossed c
  same_kept c other setting state none =
      let bytes = ap (λ (s : ByteState). s.rec) state in
      let ram = ap (λ (s : ByteState). s.ram) state in
      keeps_bytes host m other (ap holds_record bytes ∙ none) ∙ rw (setting, bytes, ram) (sym (keeps_bytes host m c none))

  pub host_stop_and_go_on : (setting : host.kind.Setting) → HostStopAndGoOn host setting
  host_stop_and_go_on setting = record {
    stop_and_go_on = stop_and_go_on (host_machine host setting) (host_keeps host m setting);
    holds = left_holds host m;
    comes_back = λ c. crossed_ran host m c ∙ ap crossing (sym (gave_ran host m c));
    no_record = same_kept;
  }
