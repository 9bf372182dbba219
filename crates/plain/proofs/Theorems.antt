-- Laws of the plain machine.
use Prim.Native.Nat.{ℕ, zero, suc, ◌+◌, ◌-◌, ◌<◌}
use native.Mathlib.Numerals.{add-one}
use native.Mathlib.Omega.{arith}
use mathlib.Core.List.{List}
use mathlib.Core.Path.{◌≡◌, refl, sym, ◌∙◌}
use Rattle.state.specs.declared.Record.{Record}
use Rattle.stop.specs.Stops.{budget}
use Rattle.plain.specs.PlainMachine.{Effect, Result, onward, plain}

module _ (instruction : Record → List ℕ → Effect) where
  -- with nothing left it stops
  pub spent : (left steps : ℕ) (r : Record) (ram : List ℕ) → left ≡ 0
      → plain instruction left steps r ram ≡ record { stop = budget; steps = steps; rec = r; ram = ram }
  unfolding plain
  spent zero steps r ram e = refl
  spent (suc left) steps r ram e = absurd (omega arith)

  more : (left rest steps : ℕ) (r : Record) (ram : List ℕ) → left ≡ rest + 1
      → plain instruction left steps r ram ≡ onward steps r ram (plain instruction rest (steps + 1)) (instruction r ram)
  unfolding plain
  more left rest steps r ram q = rw (q, add-one rest)

  -- a turn of the loop, by what the instruction does
  pub turn : (total steps : ℕ) (r : Record) (ram : List ℕ) (e : Effect) (result : Result) → steps < total
      → instruction r ram ≡ e → plain instruction (total - steps) steps r ram ≡ result
      → onward steps r ram (plain instruction (total - (steps + 1)) (steps + 1)) e ≡ result
  turn total steps r ram e result l i h =
      rw (← i) (sym (more (total - steps) (total - (steps + 1)) steps r ram (omega arith)) ∙ h)
