-- The answers of the library's calls in numbers.
use Rattle.std.specs.Prelude.{ℕ, get_or}
use Rattle.refusal.specs.Refusals.{Decision, accepted}
use Rattle.refusal.specs.Refusals as decisions
use Rattle.prefix.specs.LargestSuccessor.{Reading, bad_bundle, no_successor, largest}
use Rattle.stop.specs.Stops.{direct, by_literal, Reason, budget, service, fault, unlisted, refused}
use Rattle.crossing.specs.declared.StopNumbers.{StopNumbers}

-- 0 for what is accepted, else the refusal's number
abbrev pub code_of : Decision → ℕ
code_of accepted = 0
code_of (decisions.refused n values) = n

-- the position that a refusal carries; 0 where it carries none
abbrev pub position_of : Decision → ℕ
position_of accepted = 0
position_of (decisions.refused n values) = get_or values 0 0

-- ---- the reader's answer: 0 bad, 1 no successor, 2 a largest one

abbrev pub largest_kind : Reading → ℕ
largest_kind bad_bundle = 0
largest_kind no_successor = 1
largest_kind (largest s) = 2

abbrev pub largest_number : Reading → ℕ
largest_number bad_bundle = 0
largest_number no_successor = 0
largest_number (largest s) = s

-- ---- a stop

abbrev pub stopped_with : ℕ → ℕ → ℕ → StopNumbers
stopped_with kind value literal = record { code = 0; kind = kind; value = value; literal = literal; position = 0 }

abbrev pub refused_with : Decision → StopNumbers
refused_with d = record { code = code_of d; kind = 5; value = code_of d; literal = 0; position = position_of d }

-- a stop in numbers: the code is 0, or the refusal's number; the kind is 0 budget, 1 a service exit, 2 one with its literal, 3 a
-- fault, 4 an unlisted halfword, 5 a refusal; the value is the low byte, or the fault's or the refusal's number
abbrev pub stop_numbers : Reason → StopNumbers
stop_numbers budget = stopped_with 0 0 0
stop_numbers (service (direct n)) = stopped_with 1 n 0
stop_numbers (service (by_literal n literal)) = stopped_with 2 n literal
stop_numbers (fault n) = stopped_with 3 n 0
stop_numbers unlisted = stopped_with 4 0 0
stop_numbers (refused n values) = refused_with (decisions.refused n values)
