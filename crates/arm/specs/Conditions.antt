-- ConditionHolds.
use Rattle.std.specs.Prelude.{ℕ, Bool, true, not, ◌&&◌, ◌||◌, List, [], ◌∷◌, get_or}
use Rattle.std.specs.Bool.{beq}
use Rattle.arm.specs.declared.Flags.{Flags}

-- EQ NE CS CC MI PL VS VC HI LS GE LT GT LE, by number from 0
abbrev pub conditions : Flags → List Bool
conditions f =
    f.z
    ∷ not f.z
    ∷ f.c
    ∷ not f.c
    ∷ f.n
    ∷ not f.n
    ∷ f.v
    ∷ not f.v
    ∷ (f.c && not f.z)
    ∷ (not f.c || f.z)
    ∷ beq f.n f.v
    ∷ not (beq f.n f.v)
    ∷ (not f.z && beq f.n f.v)
    ∷ (f.z || not (beq f.n f.v))
    ∷ []

-- from 14 on there is nothing to hold: always
abbrev pub condition_holds : ℕ → Flags → Bool
condition_holds k f = get_or (conditions f) k true
