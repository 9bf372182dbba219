-- A stop whose refusal, if it is one, carries no value: its numbers say all of it.
use Prim.Native.Nat.{ℕ, zero, suc, ◌+◌}
use mathlib.Core.List.{List, []}
use mathlib.Core.Path.{◌≡◌, refl, sym, ap}
use Rattle.refusal.specs.Refusals.{Decision, accepted, refused, Rule, decision}
use Rattle.refusal.proofs.Theorems.{Lines, refusing_line}
use Rattle.state.specs.declared.Record.{Record}
use Rattle.stop.specs.Stops.{direct, by_literal, Reason, budget, service, fault, unlisted}
use Rattle.stop.specs.Stops as stops
use Rattle.plain.specs.PlainMachine.{Effect, goes_on, exits, faults, onward, plain}
use Rattle.plain.specs.PlainMachine as effect
use Rattle.plain.specs.Calls.{call_by}
use Rattle.crossing.specs.Numbers.{stop_numbers}
use Rattle.host_series.specs.Host.{stop_in}

abbrev pub NoValues : Reason → Type 0
NoValues budget = Unit {0}
NoValues (service exit) = Unit {0}
NoValues (fault n) = Unit {0}
NoValues unlisted = Unit {0}
NoValues (stops.refused n values) = values ≡ []

-- a run that isn't refused by its table isn't refused at all
plain_no_values : (instruction : Record → List ℕ → Effect) (left steps : ℕ) (r : Record) (ram : List ℕ)
    → NoValues (plain instruction left steps r ram).stop
unfolding plain
plain_no_values instruction zero steps r ram = tt
plain_no_values instruction (suc left) steps r ram = go (plain_no_values instruction left (steps + 1)) (instruction r ram)
  where
    go : ((s : Record) (after : List ℕ) → NoValues (plain instruction left (steps + 1) s after).stop)
        → (e : Effect) → NoValues (onward steps r ram (plain instruction left (steps + 1)) e).stop
    go rest (goes_on s after) = rest s after
    go rest (exits exit s after) = tt
    go rest (faults f) = tt
    go rest effect.unlisted = tt

-- ---- a call

abbrev pub values_in : Decision → List ℕ
values_in accepted = []
values_in (refused n values) = values

-- a call's stop carries none where its decision carries none
pub call_no_values : (d : Decision) → values_in d ≡ [] → (instruction : Record → List ℕ → Effect) (total : ℕ) (r : Record) (ram : List ℕ)
    → NoValues (call_by d instruction total r ram).stop
call_no_values accepted e instruction total r ram = plain_no_values instruction total 0 r ram
call_no_values (refused n values) e instruction total r ram = e

-- nor does a decision where no line of its table carries any
pub bare_refusal : (rules : List Rule) → Lines (λ test n values. values ≡ []) rules → values_in (decision rules) ≡ []
bare_refusal rules h = go (decision rules) refl
  where
    go : (d : Decision) → decision rules ≡ d → values_in d ≡ []
    go accepted e = refl
    go (refused n values) e = refusing_line (λ test k carried. carried ≡ []) rules h n values e

-- ---- a stop

-- it is read back from its numbers
pub stop_back : (x : Reason) → NoValues x → stop_in (stop_numbers x).kind (stop_numbers x).value (stop_numbers x).literal ≡ x
stop_back budget h = refl
stop_back (service (direct n)) h = refl
stop_back (service (by_literal n literal)) h = refl
stop_back (fault n) h = refl
stop_back unlisted h = refl
stop_back (stops.refused n values) h = ap (stops.refused n) (sym h)
