-- A run with a larger budget, over any definition of an instruction: it goes on where the smaller one stopped because its budget was
-- spent, and else ends as it.
use Prim.Native.Nat.{ℕ, zero, suc, ◌+◌}
use native.Mathlib.Nat.{add-zero, zero-add, suc-add}
use mathlib.Core.List.{List}
use mathlib.Core.Path.{◌≡◌, refl, ◌∙◌}
use Rattle.state.specs.declared.Record.{Record}
use Rattle.stop.specs.Stops.{Reason, budget, service, fault, refused}
use Rattle.stop.specs.Stops as stops
use Rattle.plain.specs.PlainMachine.{Effect, goes_on, exits, faults, unlisted, Result, later, onward, plain}
use Rattle.plain.proofs.Runs.{run_later}

-- one of two results, by why the smaller run stopped
abbrev if_spent : Reason → Result → Result → Result
if_spent budget farther ended = farther
if_spent (service exit) farther ended = ended
if_spent (fault n) farther ended = ended
if_spent stops.unlisted farther ended = ended
if_spent (refused n values) farther ended = ended

not_spent : (why : Reason) (farther ended : Result) → (why ≡ budget → ⊥) → if_spent why farther ended ≡ ended
not_spent budget farther ended other = absurd (other refl)
not_spent (service exit) farther ended other = refl
not_spent (fault n) farther ended other = refl
not_spent stops.unlisted farther ended other = refl
not_spent (refused n values) farther ended other = refl

module _ (instruction : Record → List ℕ → Effect) where
  -- with so much more budget
  abbrev going_on : ℕ → Result → Result
  going_on more x = if_spent x.stop (plain instruction more x.steps x.rec x.ram) x

  larger_budget : (left more steps : ℕ) (r : Record) (ram : List ℕ)
      → plain instruction (left + more) steps r ram ≡ going_on more (plain instruction left steps r ram)
  unfolding plain
  larger_budget zero more steps r ram = rw (zero-add more)
  larger_budget (suc left) more steps r ram = rw (suc-add left more) (go (larger_budget left more (steps + 1)) (instruction r ram))
    where
      go : ((s : Record) (after : List ℕ)
          → plain instruction (left + more) (steps + 1) s after ≡ going_on more (plain instruction left (steps + 1) s after))
          → (e : Effect)
          → onward steps r ram (plain instruction (left + more) (steps + 1)) e
          ≡ going_on more (onward steps r ram (plain instruction left (steps + 1)) e)
      go rest (goes_on s after) = rest s after
      go rest (exits exit s after) = refl
      go rest (faults f) = refl
      go rest unlisted = refl

  -- stopped because its budget was spent, a run goes on from its record and RAM, and steps add up
  pub goes_on_lem : (left more : ℕ) (r : Record) (ram : List ℕ) (x : Result) → plain instruction left 0 r ram ≡ x → x.stop ≡ budget
      → plain instruction (left + more) 0 r ram ≡ later x.steps (plain instruction more 0 x.rec x.ram)
  goes_on_lem left more r ram x e spent =
      larger_budget left more 0 r ram ∙ rw (e, spent) (rw (add-zero x.steps) at (run_later instruction x.steps more 0 x.rec x.ram))

  -- stopped otherwise, a larger budget changes nothing
  pub ended : (left more : ℕ) (r : Record) (ram : List ℕ) → ((plain instruction left 0 r ram).stop ≡ budget → ⊥)
      → plain instruction (left + more) 0 r ram ≡ plain instruction left 0 r ram
  ended left more r ram other = larger_budget left more 0 r ram ∙ not_spent _ _ _ other
