-- The digits of a number: the last one, and how many there are.
use mathlib.Core.Path.{◌≡◌, refl, ap, ◌∙◌}
use mathlib.Core.Bool.{cond}
use mathlib.Core.List.{List, [], ◌∷◌, ◌++◌}
use Prim.Native.Nat.{ℕ, zero, suc, ◌-◌, ◌/◌, ◌%◌, ◌^◌, ◌≤◌, ◌<◌}
use native.Mathlib.Decide.{dec_lt}
use native.Mathlib.Nat.{pow-suc, not-suc-le-zero}
use native.Mathlib.Numerals.{sub-one}
use native.Mathlib.Omega.{arith}
use lib.Dec.{ltb}
use lib.ListN.{length, length-append}
use borrow.Author.Tests.{lt-ltb, le-ltb}
use Rattle.text.specs.Digits.{digit, hex, decimal_in, decimal}

-- ---- hex

pub hex_length : (n x : ℕ) → length (hex n x) ≡ n
unfolding hex
hex_length zero x = refl
hex_length (suc n) x = rw (length-append, hex_length n (x / 16)) (omega arith)

pub hex_last : (n x : ℕ) → 1 ≤ n → hex n x ≡ hex (n - 1) (x / 16) ++ digit (x % 16) ∷ []
unfolding hex
hex_last zero x h = absurd (not-suc-le-zero h)
hex_last (suc n) x h = rw (sub-one (suc n))

-- ---- decimal

decimal_in_length : (n x : ℕ) → length (decimal_in n x) ≤ n
unfolding decimal_in
decimal_in_length zero x = omega arith
decimal_in_length (suc n) x = elim (dec_lt x 10) [
  | yes h ↦ rw (lt-ltb x 10 h) (omega arith)
  | no h ↦ rw (le-ltb x 10 (omega arith), length-append) (omega (arith, decimal_in_length n (x / 10)))
]

pub decimal_length : (x : ℕ) → length (decimal x) ≤ 10
unfolding decimal
decimal_length x = decimal_in_length 10 x

-- room for a digit that x does not have
decimal_in_more : (n x : ℕ) → x < 10 ^ suc n → decimal_in (suc n) x ≡ decimal_in (suc (suc n)) x
unfolding decimal_in
decimal_in_more zero x h = rw (lt-ltb x 10 h)
decimal_in_more (suc n) x h =
    ap (λ (l : List ℕ). cond (ltb x 10) (digit x ∷ []) (l ++ digit (x % 10) ∷ []))
    (decimal_in_more n (x / 10) (omega (arith, pow-suc 10 (suc n))))

decimal_in_last : (n x : ℕ) → 10 ≤ x → decimal_in (suc n) x ≡ decimal_in n (x / 10) ++ digit (x % 10) ∷ []
unfolding decimal_in
decimal_in_last n x h = rw (le-ltb x 10 h)

pub decimal_one : (x : ℕ) → x < 10 → decimal x ≡ digit x ∷ []
unfolding decimal decimal_in
decimal_one x h = rw (lt-ltb x 10 h)

pub decimal_last : (x : ℕ) → 10 ≤ x → x < 2 ^ 32 → decimal x ≡ decimal (x / 10) ++ digit (x % 10) ∷ []
unfolding decimal
decimal_last x h k =
    decimal_in_last 9 x h
    ∙ ap (λ (l : List ℕ). l ++ digit (x % 10) ∷ []) (decimal_in_more 8 (x / 10) (omega arith))
