-- A run with a budget, and a step: its definition and its contract.
use Rattle.std.specs.Prelude.{ℕ, List, [], ◌∷◌, ◌≡◌}
use Rattle.refusal.specs.Refusals.{decision}
use Rattle.page.specs.Page.{page_rule}
use Rattle.platform.specs.Programs.{Setting}
use Rattle.state.specs.declared.Record.{Record}
use Rattle.admission.specs.RunRefusals.{run_decision}
use Rattle.stop.specs.Stops.{reason_of}
use Rattle.plain.specs.PlainMachine.{Result}
use Rattle.plain.specs.Calls.{call_by}
use Rattle.instruction.specs.Instructions.{instruction_of}
use Rattle.machine.specs.declared.Answer.{Answer}

-- the plain machine's run, or the refusal
abbrev pub run_of : Setting → ℕ → Record → List ℕ → Result
run_of setting total r ram = call_by (run_decision setting r ram) (instruction_of setting) total r ram

-- a run of what was admitted: of the refusals, 1 alone is tested
abbrev pub admitted_run : Setting → ℕ → Record → List ℕ → Result
admitted_run setting total r ram = call_by (decision (page_rule setting.program.page ∷ [])) (instruction_of setting) total r ram

-- an answer and the RAM at exit, by the build paper's numbers and values
abbrev pub seen : Answer → List ℕ → Result
seen a ram = record { stop = reason_of a.stop; steps = a.steps; rec = a.after; ram = ram }

-- the contract of `run`, and of `step` with budget 1
abbrev pub Gives : Setting → ℕ → Record → List ℕ → Answer → List ℕ → Type 0
Gives setting total r ram a after = seen a after ≡ run_of setting total r ram
