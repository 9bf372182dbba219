-- What a passed or failed test of two tests says of each.
use mathlib.Core.Path.{◌≡◌, refl, sym}
use mathlib.Core.Bool.{Bool, true, false, ◌&&◌, ◌||◌, beq, true≢false, not-eq-not, and-eq-true_iff}
use mathlib.Core.Logic.{◌⊎◌, inl, inr}

pub both : (a b : Bool) → (a && b) ≡ true → (a ≡ true) × (b ≡ true)
both a b e = (and-eq-true_iff a b).0 e

pub either : (a b : Bool) → (a || b) ≡ true → (a ≡ true) ⊎ (b ≡ true)
either true b e = inl refl
either false b e = inr e

pub second : (a b : Bool) → (a || b) ≡ false → b ≡ false
second true b e = absurd (true≢false e)
second false b e = e

pub fails : {a : Bool} → (a ≡ true → ⊥) → a ≡ false
fails h = (not-eq-not {b = false}).0 h

pub equal_tests : (a b : Bool) → beq a b ≡ true → a ≡ b
equal_tests true true e = refl
equal_tests true false e = sym e
equal_tests false true e = e
equal_tests false false e = refl

-- one of two tests says the other
pub implied : (a b : Bool) → (b ≡ true → a ≡ true) → b ≡ (a && b)
implied true b h = refl
implied false true h = sym (h refl)
implied false false h = refl

pub implies : (a b : Bool) → (a ≡ true → b ≡ true) → a ≡ (a && b)
implies true b h = sym (h refl)
implies false b h = refl
