-- What demand 3 is about: fit records, fit places and RAM of its size; listed instructions and services at a place.
use Rattle.std.specs.Prelude.{ℕ, ◌≤◌, Bool, true, false, List, ◌≡◌, length}
use Rattle.isa.specs.declared.Instruction.TheVariants as instruction
use Rattle.flow.specs.Flow.{listed}
use Rattle.platform.specs.Programs.{Program, Setting}
use Rattle.ending.specs.Endings.{ending_in}
use Rattle.ending.specs.declared.Ending.{Ending}
use Rattle.ending.specs.declared.Ending.TheVariants as ending
use Rattle.state.specs.FitRecord.{fit_record}
use Rattle.state.specs.declared.Record.{Record}
use Rattle.stop.specs.Stops.{Exit}
use Rattle.count.specs.Count.{count_program}
use Rattle.place.specs.Places.{instruction_at, fit_below}
use Rattle.instruction.specs.Instructions.{exit_of}

-- a fit record with a place that is fit by a count, and RAM of its size
pub record FitBy (setting : Setting) (count : ℕ) (r : Record) (ram : List ℕ) : Type 0 where
  pub record_fits : fit_record r (length setting.external) ≡ true
  pub place_fits : fit_below setting.program count r.place ≡ true
  pub ram_fits : length ram ≡ 32768

-- a place starts a listed instruction if it is fit and what stands there matches a listed encoding
pub record StartsBy (program : Program) (count : ℕ) (r : Record) : Type 0 where
  pub place_fits : fit_below program count r.place ≡ true
  pub is_listed : listed (instruction_at program r.place) ≡ true

-- on a lone page, by its own count
abbrev pub Fit : Setting → Record → List ℕ → Type 0
Fit setting = FitBy setting (count_program setting.program).count

abbrev pub Starts : Program → Record → Type 0
Starts program = StartsBy program (count_program program).count

-- the build paper's exits, terminators or not
abbrev pub is_exit : Ending → Bool
is_exit ending.GoesOn = false
is_exit ending.Exit = true
is_exit ending.LastExit = true
is_exit ending.Bad = false

-- a service stands at the place that exits so: with its low byte and, for 01-7F, the page's literal
pub record ServiceAt (program : Program) (r : Record) (exit : Exit) : Type 0 where
  pub low : ℕ
  pub stands : instruction_at program r.place ≡ instruction.Service low
  pub reports : exit ≡ exit_of program.page low
  pub column : is_exit (ending_in program low) ≡ true

-- the papers' faults: the build paper's six, and the window's
abbrev pub Known : ℕ → Type 0
Known n = (1 ≤ n) × (n ≤ 7)
