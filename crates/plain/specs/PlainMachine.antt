-- The build paper's plain machine, over any definition of an instruction. Its state is record and RAM.
use Rattle.std.specs.Prelude.{ℕ, zero, suc, ◌+◌, List}
use Rattle.memory.specs.Faults.{fault_number}
use Rattle.memory.specs.declared.Fault.{Fault}
use Rattle.state.specs.declared.Record.{Record}
use Rattle.stop.specs.Stops.{Exit, Reason, budget, service, fault}
use Rattle.stop.specs.Stops as stops

-- an instruction goes on, or exits, with a record and RAM; or it faults; or what stands there is unlisted, which is the build
-- paper's mark. The last two change nothing
pub data Effect : Type 0 where
  goes_on : Record → List ℕ → Effect
  exits : Exit → Record → List ℕ → Effect
  faults : Fault → Effect
  unlisted : Effect

-- what a call gives
pub record Result : Type 0 where
  pub stop : Reason
  pub steps : ℕ
  pub rec : Record
  pub ram : List ℕ

-- a result where so many steps were made before: they are added up
abbrev pub later : ℕ → Result → Result
later before x = record { stop = x.stop; steps = before + x.steps; rec = x.rec; ram = x.ram }

-- an instruction after so many steps: if it goes on, its record and RAM are kept and steps grow by 1; an exit does the same and
-- stops; a fault and an unlisted halfword stop and keep record, RAM and steps
abbrev pub onward : ℕ → Record → List ℕ → (Record → List ℕ → Result) → Effect → Result
onward steps r ram next (goes_on s after) = next s after
onward steps r ram next (exits exit s after) = record { stop = service exit; steps = steps + 1; rec = s; ram = after }
onward steps r ram next (faults f) = record { stop = fault (fault_number f); steps = steps; rec = r; ram = ram }
onward steps r ram next unlisted = record { stop = stops.unlisted; steps = steps; rec = r; ram = ram }

-- so much of the build paper's budget is left after so many steps: with nothing left it stops as "budget", else it takes the
-- definition of the instruction
unfoldable pub plain : (Record → List ℕ → Effect) → ℕ → ℕ → Record → List ℕ → Result
plain instruction zero steps r ram = record { stop = budget; steps = steps; rec = r; ram = ram }
plain instruction (suc left) steps r ram = onward steps r ram (plain instruction left (steps + 1)) (instruction r ram)
