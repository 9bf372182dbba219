-- With all of RAM as its window every answer without windows holds: what is claimed.
use Rattle.std.specs.Prelude.{ℕ, true, cond, List, [], ◌∷◌, ◌++◌, ◌≡◌, length, Ok, Err}
use Rattle.refusal.specs.Refusals.{decision}
use Rattle.endian.specs.LittleEndian.{width_of, load_le, store_le}
use Rattle.endian.specs.declared.Size.{Size}
use Rattle.window.specs.Windows.{whole_ram, window_fits}
use Rattle.platform.specs.Programs.{program_rules, Setting, setting_of}
use Rattle.memory.specs.Memory.{inside_ram, ram_loaded, ram_stored, ram_after}
use Rattle.memory.specs.declared.Fault.{Fault}
use Rattle.memory.specs.declared.Fault.TheVariants.{OutsideWindow}
use Rattle.state.specs.Validation.{external_rule}
use Rattle.state.specs.declared.Record.{Record}
use Rattle.stop.specs.Stops.{fault}
use Rattle.plain.specs.PlainMachine.{faults}
use Rattle.count.specs.Count.{count_program}
use Rattle.admission.specs.RunRefusals.{ram_rule, record_rules, run_decision}
use Rattle.instruction.specs.Instructions.{instruction_of}
use Rattle.machine.specs.Runs.{run_of}

-- the same with all of RAM
abbrev pub unwindowed : Setting → Setting
unwindowed setting = setting_of setting.program setting.external whole_ram

pub record WholeWindow : Type 0 where
  -- the definitions that look at a window are then the build paper's: reads and writes are tested by RAM's length alone
  pub loads : (ram : List ℕ) (at : ℕ) (size : Size) (past : Fault)
      → ram_loaded whole_ram ram at size past ≡ cond (inside_ram at (width_of size)) (Ok (load_le (width_of size) ram at)) (Err past)
  pub stores : (at : ℕ) (size : Size) (past : Fault) → ram_stored whole_ram at size past ≡ cond (inside_ram at (width_of size)) (Ok tt) (Err past)
  pub after : (ram : List ℕ) (at : ℕ) (size : Size) (past : Fault) (x : ℕ)
      → ram_after whole_ram ram at size past x ≡ cond (inside_ram at (width_of size)) (store_le (width_of size) ram at x) ram
  -- nor is a call refused by 20
  pub refusals : (setting : Setting) (r : Record) (ram : List ℕ)
      → run_decision (unwindowed setting) r ram
      ≡ decision ((program_rules setting.program ++ (ram_rule ram ∷ external_rule (length setting.external) ∷ []))
      ++ record_rules setting.program (count_program setting.program).count (length setting.external) r)
  -- fault 7 is never met, by an instruction or in a run
  pub never_met : (setting : Setting) (r : Record) (ram : List ℕ) → instruction_of (unwindowed setting) r ram ≡ faults OutsideWindow → ⊥
  pub never_stops : (setting : Setting) (budget : ℕ) (r : Record) (ram : List ℕ) → (run_of (unwindowed setting) budget r ram).stop ≡ fault 7 → ⊥
  -- and nothing else looks at a window: where fault 7 isn't met, the effect is that with all of RAM
  pub instructions : (setting : Setting) (r : Record) (ram : List ℕ) → (instruction_of setting r ram ≡ faults OutsideWindow → ⊥)
      → instruction_of setting r ram ≡ instruction_of (unwindowed setting) r ram
  -- so is a run's result, where the window is allowed and the run doesn't stop by fault 7
  pub runs : (setting : Setting) (budget : ℕ) (r : Record) (ram : List ℕ) → window_fits setting.window ≡ true
      → ((run_of setting budget r ram).stop ≡ fault 7 → ⊥) → run_of setting budget r ram ≡ run_of (unwindowed setting) budget r ram
