-- Fields of a halfword, as the code takes them.
use mathlib.Core.Path.{◌≡◌, refl}
use mathlib.Core.Bool.{beq, ◌||◌}
use mathlib.Core.List.{[], ◌∷◌}
use Prim.Native.Nat.{ℕ, ◌/◌, ◌%◌, ◌^◌}
use native.Mathlib.Omega.{arith}
use lib.Dec.{leb}
use Rattle.laws.proofs.Tests.{equal_tests}
use Rattle.laws.proofs.Runs.{run_lem}
use Rattle.isa.specs.Patterns.{O, I, matches}
use Rattle.isa.specs.ListedEncodings.{opens32}

-- the top five bits are 29, 30 or 31
pub opening : (h : ℕ) → leb 29 (h / 2 ^ 11 % 2 ^ 5) ≡ opens32 h
unfolding opens32 matches
opening h =
    equal_tests _ _
    (run_lem
    (λ v. beq (leb 29 v) (matches (I ∷ I ∷ I ∷ O ∷ I ∷ []) v || matches (I ∷ I ∷ I ∷ I ∷ O ∷ []) v || matches (I ∷ I ∷ I ∷ I ∷ I ∷ []) v))
    0 32 refl (h / 2 ^ 11 % 2 ^ 5) (omega arith) (omega arith))
