-- What the code gives back for an instruction: how it ended, and what it writes.
use Rattle.std.specs.Prelude.{ℕ, List, ◌≡◌, cond, ltb, Result, Ok, Err}
use Rattle.isa.specs.declared.Operation.{Operation}
use Rattle.isa.specs.declared.Instruction.{Instruction}
use Rattle.isa.specs.declared.Instruction.TheVariants as instruction
use Rattle.memory.specs.declared.Fault.{Fault}
use Rattle.writing.specs.Writes.{applied}
use Rattle.writing.specs.declared.Writes.{Writes}
use Rattle.state.specs.declared.Record.{Record}
use Rattle.stop.specs.Stops.{Exit, direct, by_literal}
use Rattle.plain.specs.PlainMachine.{Effect, goes_on, exits, faults, unlisted}
use Rattle.execution.specs.declared.End.{End}
use Rattle.execution.specs.declared.End.TheVariants.{GoesOn, Exits, ExitsBy, Fails, Unlisted}
use Rattle.execution.specs.declared.Executed.{Executed}

unfoldable pub exit_end : Exit → End
exit_end (direct n) = Exits n
exit_end (by_literal n literal) = ExitsBy n literal

-- how an instruction ended, and the record afterwards
pub record Ended : Type 0 where
  pub end : End
  pub rec : Record

abbrev pub after : Record → Executed → Ended
after r x = record { end = x.end; rec = applied r x.writes x.place }

unfoldable pub executed_of : Record → Effect → Ended
executed_of r (goes_on s ram) = record { end = GoesOn; rec = s }
executed_of r (exits exit s ram) = record { end = exit_end exit; rec = s }
executed_of r (faults fault) = record { end = Fails fault; rec = r }
executed_of r unlisted = record { end = Unlisted; rec = r }

unfoldable pub effect_ram : List ℕ → Effect → List ℕ
effect_ram ram (goes_on r after) = after
effect_ram ram (exits exit r after) = after
effect_ram ram (faults fault) = ram
effect_ram ram unlisted = ram

-- the instruction that has the effect e
abbrev pub Executes : Record → List ℕ → Effect → Executed → List ℕ → Type 0
Executes r ram e x left = (after r x ≡ executed_of r e) × (left ≡ effect_ram ram e)

-- whatever RAM is
abbrev pub ExecutesAny : Record → (List ℕ → Effect) → Executed → Type 0
ExecutesAny r e x = (ram : List ℕ) → after r x ≡ executed_of r (e ram)

-- done, and it ends so at a place; or a fault was met
unfoldable pub ended_by : End → Record → ℕ → Result Writes Fault → Ended
ended_by end r place (Ok w) = record { end = end; rec = applied r w place }
ended_by end r place (Err fault) = record { end = Fails fault; rec = r }

abbrev pub NotData : Instruction → Type 0
NotData i = (operation : Operation) → i ≡ instruction.Data operation → ⊥

-- a data-processing instruction is the run's own, and counts as unlisted here
unfoldable pub not_data : Instruction → Instruction
not_data (instruction.Data operation) = instruction.Unlisted
not_data (instruction.Memory access) = instruction.Memory access
not_data (instruction.Cbz imm6 n) = instruction.Cbz imm6 n
not_data (instruction.Cbnz imm6 n) = instruction.Cbnz imm6 n
not_data (instruction.Bcc condition imm8) = instruction.Bcc condition imm8
not_data (instruction.B imm11) = instruction.B imm11
not_data (instruction.Service n) = instruction.Service n
not_data instruction.Unlisted = instruction.Unlisted

-- what is executed of an instruction at a place: behind the 64 bundles of the largest page there is none
unfoldable pub executable : ℕ → Instruction → Instruction
executable place i = cond (ltb place 128) (not_data i) instruction.Unlisted
