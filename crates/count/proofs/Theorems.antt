-- What holds of every count.
use Prim.Native.Nat.{◌≤◌}
use native.Mathlib.Omega.{arith}
use mathlib.Core.Path.{◌≡◌, refl}
use Rattle.refusal.specs.Refusals.{Decision, accepted, refused, decision, when_accepted}
use Rattle.page.specs.Page.{bundles_in}
use Rattle.page.proofs.Theorems.{fitting}
use Rattle.platform.specs.Programs.{Program, program_rules}
use Rattle.platform.proofs.Theorems.{program_accepted}
use Rattle.prefix.proofs.Theorems.{definition}
use Rattle.bundle.specs.Successors.{successors_of}
use Rattle.count.specs.Count.{count_of, count_program}

-- a page has at most 64 bundles; refused, the count is 0
pub at_most : (program : Program) → (count_program program).count ≤ 64
at_most program = go (decision (program_rules program)) refl
  where
    go : (d : Decision) → decision (program_rules program) ≡ d → when_accepted d (count_of program) 0 ≤ 64
    go accepted e =
        omega (arith, (definition (successors_of program) (bundles_in program.page)).inside, fitting program.page (program_accepted program e).1)
    go (refused n values) e = omega arith
