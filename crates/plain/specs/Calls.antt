-- A call: refused by its table, or a run of the plain machine.
use Rattle.std.specs.Prelude.{ℕ, List}
use Rattle.refusal.specs.Refusals.{Decision, accepted, refused}
use Rattle.state.specs.declared.Record.{Record}
use Rattle.stop.specs.Stops as stops
use Rattle.plain.specs.PlainMachine.{Effect, Result, plain}

-- a run begins with steps 0; refused, steps 0, the given record, RAM untouched
abbrev pub call_by : Decision → (Record → List ℕ → Effect) → ℕ → Record → List ℕ → Result
call_by accepted instruction total r ram = plain instruction total 0 r ram
call_by (refused n values) instruction total r ram = record { stop = stops.refused n values; steps = 0; rec = r; ram = ram }
