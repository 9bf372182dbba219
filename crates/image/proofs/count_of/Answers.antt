use mathlib.Core.Path.{ap}
use native.Mathlib.Omega.{arith}
use Rattle.platform.specs.Programs.{seen_program}
use Rattle.count.specs.Count.{CountAnswer}
use Rattle.count.proofs.Theorems.{at_most}
use Rattle.image.proofs.count_of.Goals as goal

pub overflow_cast-result : goal.overflow_cast-result
overflow_cast-result c =
    record { fits = omega (arith, at_most (seen_program c.args.program.now), c.unwrap_or.ensures, ap (λ (x : CountAnswer). x.count) c.count.ensures) }
