-- Runs that are cut: examples of what stop and go on speaks of. Some page spends any budget, and a run on another goes on after a cut
-- and stops otherwise.
use Rattle.std.specs.Prelude.{ℕ, List, [], ◌∷◌, ◌≡◌, length}
use Rattle.window.specs.Windows.{whole_ram}
use Rattle.platform.specs.Programs.{Setting, default_program, setting_of}
use Rattle.state.specs.Record.{fresh_record, with_register, with_place}
use Rattle.state.specs.declared.Record.{Record}
use Rattle.stop.specs.Stops.{budget, service, direct}
use Rattle.machine.specs.Runs.{run_of}
use Rattle.claims.specs.Pages.{page_of}

-- a branch to itself; without external data, and with all of RAM
abbrev pub looping : Setting
looping = setting_of (default_program (page_of (0xE7FE ∷ 0xBF00 ∷ []))) [] whole_ram

-- mov r0, #1 and return
abbrev pub returning : Setting
returning = setting_of (default_program (page_of (0x2001 ∷ 0xDF00 ∷ []))) [] whole_ram

-- r0 = 1, at the return
abbrev pub at_return : Record
at_return = with_place (with_register fresh_record 0 1) 1

pub record Cuts (ram : List ℕ) : Type 0 where
  -- a loop spends any budget
  pub loops : (a : ℕ) → run_of looping a fresh_record ram ≡ record { stop = budget; steps = a; rec = fresh_record; ram = ram }
  -- of budgets 1 and 4 the first is spent, and the second run stops at the return; so does one with 5
  pub first : run_of returning 1 fresh_record ram ≡ record { stop = budget; steps = 1; rec = at_return; ram = ram }
  pub second : run_of returning 4 at_return ram ≡ record { stop = service (direct 0); steps = 1; rec = at_return; ram = ram }
  pub whole : run_of returning 5 fresh_record ram ≡ record { stop = service (direct 0); steps = 2; rec = at_return; ram = ram }

-- with any RAM of its size
abbrev pub CutsInAnyRam : Type 0
CutsInAnyRam = (ram : List ℕ) → length ram ≡ 32768 → Cuts ram
