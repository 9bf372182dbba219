-- Windows, of a host's calls.
use Rattle.std.specs.Prelude.{◌≡◌}
use Rattle.window.specs.Windows.{EqualInside}
use Rattle.window.specs.declared.Window.{Window}
use Rattle.series.specs.Windows.{OutsideStays, KeepsToWindow}
use Rattle.hosting.specs.Crossed.{Crossed}
use Rattle.host_series.specs.Host.{Host}
use Rattle.host_series.specs.HostSeries.{host_machine, RefusesHost}

-- what comes back is equal but for RAM's bytes outside a window
pub record EqualCrossed (w : Window) (x y : Crossed) : Type 0 where
  pub stop : x.stop ≡ y.stop
  pub steps : x.steps ≡ y.steps
  pub bytes : x.bytes ≡ y.bytes
  pub ram : EqualInside w x.ram y.ram

module _ (host : Host) where
  abbrev pub window_lent : host.Call → Window
  window_lent c = host.kind.window (host.lent c).setting

  pub record HostWindows (setting : host.kind.Setting) : Type 0 where
    -- of the calls whose bytes hold a record, and of the records in them
    pub keeps_to_window : KeepsToWindow (host_machine host setting)
    -- bytes outside the window stay, calls that are refused for their bytes among them
    pub outside_stays : OutsideStays (λ c. (host.lent c).ram) (λ c. (host.crossed c).ram) window_lent (λ c. RefusesHost host (host.lent c).setting c)
    -- two calls that are lent equal settings, budgets and bytes of a record, or of none, and RAMs that are equal inside the window, give
    -- back equal numbers, bytes of the record and window bytes
    pub equal_calls : (c d : host.Call) → (host.lent c).setting ≡ (host.lent d).setting → (host.lent c).budget ≡ (host.lent d).budget
        → (host.lent c).bytes ≡ (host.lent d).bytes → EqualInside (window_lent c) (host.lent c).ram (host.lent d).ram
        → EqualCrossed (window_lent c) (host.crossed c) (host.crossed d)
