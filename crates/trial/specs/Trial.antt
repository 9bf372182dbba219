-- The runner: bundle 0 of a page, with the fresh record, a RAM of 32,768 zero bytes, no external data, all of RAM as
-- its window and budget 100,000.
use Rattle.std.specs.Prelude.{ℕ, List, [], replicate}
use Rattle.window.specs.Windows.{whole_ram}
use Rattle.platform.specs.Programs.{default_program, setting_of}
use Rattle.state.specs.Record.{fresh_record}
use Rattle.plain.specs.PlainMachine.{Result}
use Rattle.machine.specs.Runs.{run_of}
use Rattle.transcript.specs.Transcript.{transcript_of}

abbrev pub trial_run : List ℕ → Result
trial_run page = run_of (setting_of (default_program page) [] whole_ram) 100000 fresh_record (replicate 32768 0)

-- what it prints
unfoldable pub trial_of : List ℕ → List ℕ
trial_of page = transcript_of (trial_run page).stop (trial_run page).steps (trial_run page).rec
