-- Laws of refusal tables, and how many values a refusal carries.
use Prim.Native.Nat.{ℕ, ◌≤◌}
use mathlib.Core.Bool.{Bool, true, false, not, cond, true≢false}
use mathlib.Core.List.{List, [], ◌∷◌, ◌++◌}
use mathlib.Core.Path.{◌≡◌, refl, sym, ap}
use native.Mathlib.Omega.{arith}
use lib.ListN.{length}
use Rattle.refusal.specs.Refusals.{Decision, accepted, refused, Rule, rule, decision, is_accepted, when_accepted, refusal_values}
use Rattle.refusal.specs.declared.Refusal.{Refusal}
use Rattle.refusal.specs.declared.Refusal.TheVariants.{PageLength, RamLength, ExternalLength, UnfitPlace, FormLength, FormRange, NoSuchBundle, NotGrouped, RoomTooSmall, ImageLength, NoSuchPage, IndexLength, UnknownProfile, WindowBounds, WrongIndex, SpBounds, SpAlignment, RamOffset, ExternalOffset, NoRecord}

-- what is accepted has passed every line
pub passes_lem : (t : Bool) (n : ℕ) (values : List ℕ) (rest : Decision) → cond (not t) (refused n values) rest ≡ accepted
    → (t ≡ true) × (rest ≡ accepted)
passes_lem true n values rest e = (refl, e)
passes_lem false n values rest e = absurd (true≢false cc)

pub is_accepted_lem : (d : Decision) → is_accepted d ≡ true → d ≡ accepted
is_accepted_lem accepted e = refl
is_accepted_lem (refused n values) e = absurd (true≢false (sym e))

-- the later lines of a table are read only if the first ones accept
pub in_turn : (xs ys : List Rule) → decision (xs ++ ys) ≡ when_accepted (decision xs) (decision ys) (decision xs)
in_turn [] ys = refl
in_turn (rule true n values ∷ xs) ys = refl
in_turn (rule false n values ∷ xs) ys = in_turn xs ys

pub all_accepted : (xs ys : List Rule) → decision (xs ++ ys) ≡ accepted → (decision xs ≡ accepted) × (decision ys ≡ accepted)
all_accepted [] ys e = (refl, e)
all_accepted (rule true n values ∷ xs) ys e = absurd (true≢false (sym (ap is_accepted e)))
all_accepted (rule false n values ∷ xs) ys e = all_accepted xs ys e

-- the same, where what the first ones say is known
pub after_lem : (xs ys : List Rule) (d : Decision) → d ≡ decision xs → decision (xs ++ ys) ≡ when_accepted d (decision ys) d
after_lem xs ys d e = rw e (in_turn xs ys)

-- and what the later ones say too
pub joined : (xs ys : List Rule) (d first second : Decision) → d ≡ when_accepted first second first → first ≡ decision xs
    → second ≡ decision ys → d ≡ decision (xs ++ ys)
joined xs ys d first second e by_first by-second = rw (after_lem xs ys first by_first, ← by-second) e

-- what holds of every line of a table, by its test, number and values, holds of the line that refuses
abbrev pub Lines : (Bool → ℕ → List ℕ → Type 0) → List Rule → Type 0
Lines P [] = Unit {0}
Lines P (rule test n values ∷ rules) = P test n values × Lines P rules

pub refusing_line : (P : Bool → ℕ → List ℕ → Type 0) (rules : List Rule) → Lines P rules → (n : ℕ) (values : List ℕ)
    → decision rules ≡ refused n values → P true n values
refusing_line P [] h n values e = absurd (true≢false (ap is_accepted e))
refusing_line P (rule true k carried ∷ rules) h n values e = rw (number, carries) at h.0
  where
    number : k ≡ n
    number = cc

    carries : carried ≡ values
    carries = cc
refusing_line P (rule false k carried ∷ rules) h n values e = refusing_line P rules h.1 n values e

-- ---- values

pub few_values : (r : Refusal) → length (refusal_values r) ≤ 1
few_values PageLength = omega arith
few_values RamLength = omega arith
few_values ExternalLength = omega arith
few_values UnfitPlace = omega arith
few_values FormLength = omega arith
few_values (FormRange position) = omega arith
few_values NoSuchBundle = omega arith
few_values NotGrouped = omega arith
few_values RoomTooSmall = omega arith
few_values ImageLength = omega arith
few_values NoSuchPage = omega arith
few_values IndexLength = omega arith
few_values UnknownProfile = omega arith
few_values WindowBounds = omega arith
few_values WrongIndex = omega arith
few_values SpBounds = omega arith
few_values SpAlignment = omega arith
few_values RamOffset = omega arith
few_values ExternalOffset = omega arith
few_values (NoRecord position) = omega arith
