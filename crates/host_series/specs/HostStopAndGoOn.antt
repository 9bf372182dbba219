-- Stop and go on, of a host's calls: of the records in the bytes that it hands on.
use Rattle.std.specs.Prelude.{true, false, ◌≡◌}
use Rattle.layout.specs.StoredForm.{holds_record}
use Rattle.series.specs.StopAndGoOn.{StopAndGoOn}
use Rattle.hosting.specs.Crossed.{crossing}
use Rattle.host_series.specs.Host.{Host}
use Rattle.host_series.specs.HostSeries.{RecordCall, gave_record, host_machine, lent_state}

pub record HostStopAndGoOn (host : Host) (setting : host.kind.Setting) : Type 0 where
  pub stop_and_go_on : StopAndGoOn (host_machine host setting)
  -- what comes back holds a record again, so a call that is lent it is such a call
  pub holds : (c : RecordCall host) → holds_record (host.crossed c.call).bytes ≡ true
  -- and it says no more than the result: equal results are equal numbers and bytes
  pub comes_back : (c : RecordCall host) → host.crossed c.call ≡ crossing (gave_record host c)
  -- a call whose bytes hold no record gives the same with any budget
  pub no_record : (c other : host.Call) → (host.lent other).setting ≡ (host.lent c).setting → lent_state host other ≡ lent_state host c
      → holds_record (host.lent c).bytes ≡ false → host.crossed other ≡ host.crossed c
