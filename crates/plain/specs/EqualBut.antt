-- Results that differ in RAM alone.
use Rattle.std.specs.Prelude.{List, ◌≡◌, ℕ}
use Rattle.plain.specs.PlainMachine.{Result}

-- stop, steps and record are equal, and the RAMs are as `Rams` says
pub record EqualBut (Rams : List ℕ → List ℕ → Type 0) (x y : Result) : Type 0 where
  pub stop : x.stop ≡ y.stop
  pub steps : x.steps ≡ y.steps
  pub rec : x.rec ≡ y.rec
  pub ram : Rams x.ram y.ram
