-- A pattern in two parts, and one whose last bits are free.
use mathlib.Core.Path.{◌≡◌, refl, sym, ap, subst, ◌∙◌}
use mathlib.Core.Bool.{Bool, true, false, ◌&&◌, and_assoc, and-true, false≢true}
use mathlib.Core.List.{List, [], ◌∷◌, ◌++◌}
use Prim.Native.Nat.{ℕ, ◌+◌, ◌/◌, ◌%◌, ◌^◌}
use native.Mathlib.Nat.{add_comm}
use lib.Dec.{eqb}
use lib.ListN.{length, take, drop, length-append, take-append-drop}
use lib.Pow.{shr-shr}
use Rattle.bits.specs.Fields.{bit}
use Rattle.isa.specs.Patterns.{Bit, O, I, x, agrees, matches}

-- a bit above the last n
above : (w i n : ℕ) → bit w (i + n) ≡ bit (w / 2 ^ n) i
above w i n = ap (λ (m : ℕ). eqb (m % 2) 1) (ap (λ (m : ℕ). w / 2 ^ m) (add_comm i n) ∙ sym (shr-shr w n i))

pub append : (q r : List Bit) (w : ℕ) → matches (q ++ r) w ≡ (matches q (w / 2 ^ length r) && matches r w)
unfolding matches
append [] r w = refl
append (b ∷ q) r w =
    rw (length-append q r, above w (length q) (length r), append q r w)
    (sym (and_assoc (agrees b (bit (w / 2 ^ length r) (length q))) (matches q (w / 2 ^ length r)) (matches r w)))

-- the parts of a pattern that is cut after n bits
pub cut : (n : ℕ) (p : List Bit) (w : ℕ) → matches p w ≡ (matches (take n p) (w / 2 ^ length (drop n p)) && matches (drop n p) w)
cut n p w = subst (λ (q : List Bit). matches q w ≡ (matches (take n p) (w / 2 ^ length (drop n p)) && matches (drop n p) w)) (take-append-drop n p) (append (take n p) (drop n p) w)

abbrev pub free : List Bit → Bool
free [] = true
free (O ∷ p) = false
free (I ∷ p) = false
free (x ∷ p) = free p

pub free_matches : (p : List Bit) (w : ℕ) → free p ≡ true → matches p w ≡ true
unfolding matches
free_matches [] w e = refl
free_matches (O ∷ p) w e = absurd (false≢true e)
free_matches (I ∷ p) w e = absurd (false≢true e)
free_matches (x ∷ p) w e = free_matches p w e

-- where the bits after the first n are free, the first n decide
pub prefix : (n : ℕ) (p : List Bit) (w : ℕ) → free (drop n p) ≡ true → matches p w ≡ matches (take n p) (w / 2 ^ length (drop n p))
prefix n p w f = cut n p w ∙ rw (free_matches (drop n p) w f) (and-true (matches (take n p) (w / 2 ^ length (drop n p))))
