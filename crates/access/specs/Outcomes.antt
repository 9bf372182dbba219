-- What an instruction comes to, its place aside.
use Rattle.std.specs.Prelude.{ℕ, List, Some, Result, Ok, Err, ◌≡◌}
use Rattle.memory.specs.declared.Fault.{Fault}
use Rattle.writing.specs.Writes.{keeping, writes_nothing}
use Rattle.state.specs.declared.Record.{Record}
use Rattle.writing.specs.declared.Writes.{Writes}

-- it is done: what it writes, and RAM afterwards; or it meets a fault, and changes nothing
pub data Outcome : Type 0 where
  does : Writes → List ℕ → Outcome
  fails : Fault → Outcome

-- what was loaded goes to register t
unfoldable pub load_to : Record → List ℕ → ℕ → Result ℕ Fault → Outcome
load_to r ram t (Ok x) = does (keeping r (Some (t, x)) r.flags) ram
load_to r ram t (Err fault) = fails fault

-- a store leaves the RAM after it
unfoldable pub store_with : Record → Result Unit Fault → List ℕ → Outcome
store_with r (Ok t) after = does (writes_nothing r) after
store_with r (Err fault) after = fails fault

-- ---- what the code gives back for an outcome

unfoldable pub did_of : Outcome → Result Writes Fault
did_of (does w ram) = Ok w
did_of (fails fault) = Err fault

unfoldable pub outcome_ram : List ℕ → Outcome → List ℕ
outcome_ram ram (does w after) = after
outcome_ram ram (fails fault) = ram

abbrev pub Does : List ℕ → Outcome → Result Writes Fault → List ℕ → Type 0
Does ram o d after = (d ≡ did_of o) × (after ≡ outcome_ram ram o)

-- whatever RAM is
abbrev pub DoesAny : (List ℕ → Outcome) → Result Writes Fault → Type 0
DoesAny o d = (ram : List ℕ) → d ≡ did_of (o ram)
