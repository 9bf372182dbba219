-- Stops: the build paper's number and values for each.
use Rattle.std.specs.Prelude.{ℕ, List}
use Rattle.refusal.specs.Refusals.{refusal_number, refusal_values}
use Rattle.memory.specs.Faults.{fault_number}
use Rattle.stop.specs.declared.Stop.{Stop}
use Rattle.stop.specs.declared.Stop.TheVariants.{Budget, Service, ServiceBy, Fault, Unlisted, Refused}

-- the build paper's service exit, with what it carries: the low byte and, for 01-7F, the literal
pub data Exit : Type 0 where
  direct : ℕ → Exit
  by_literal : ℕ → ℕ → Exit

-- "budget", a service exit, a fault's number, an unlisted halfword with its mark, a refusal's number and values
pub data Reason : Type 0 where
  budget : Reason
  service : Exit → Reason
  fault : ℕ → Reason
  unlisted : Reason
  refused : ℕ → List ℕ → Reason

abbrev pub reason_of : Stop → Reason
reason_of Budget = budget
reason_of (Service n) = service (direct n)
reason_of (ServiceBy n literal) = service (by_literal n literal)
reason_of (Fault f) = fault (fault_number f)
reason_of Unlisted = unlisted
reason_of (Refused r) = refused (refusal_number r) (refusal_values r)
