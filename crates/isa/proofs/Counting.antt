-- How many numbers pass a test; and how many words match a pattern, once over its bits.
use mathlib.Core.Path.{◌≡◌, refl, sym, ap, ◌∙◌}
use mathlib.Core.Bool.{Bool, true, false, ◌&&◌, ◌||◌, cond}
use mathlib.Core.List.{List, [], ◌∷◌}
use Prim.Native.Nat.{ℕ, zero, suc, ◌+◌, ◌-◌, ◌*◌, ◌/◌, ◌%◌, ◌^◌, ◌≤◌, ◌<◌}
use native.Mathlib.Nat.{add-zero, zero-add, add-suc, add_assoc, one-mul, pow-suc, le_refl, div-eq_of_lt, mul-add-div_right, mul-add-mod_self_right}
use native.Mathlib.Omega.{arith}
use lib.Dec.{eqb}
use lib.ListN.{length}
use lib.Pow.{pow_pos, pow-add, high}
use Rattle.bits.specs.Fields.{bit}
use Rattle.isa.specs.Patterns.{Bit, O, I, x, agrees, matches}
use Rattle.isa.specs.Rows.{count_below}

-- ---- numbers below a bound that pass a test

alike : (f g : ℕ → Bool) (n : ℕ) → ((w : ℕ) → w < n → f w ≡ g w) → count_below f n ≡ count_below g n
unfolding count_below
alike f g zero e = refl
alike f g (suc n) e = rw (alike f g n (λ w h. e w (omega arith)), e n (omega arith))

pub none : (n : ℕ) → count_below (λ w. false) n ≡ 0
unfolding count_below
none zero = refl
none (suc n) = rw (none n)

-- those below m, and those from m on
split : (f : ℕ → Bool) (m n : ℕ) → count_below f (m + n) ≡ count_below f m + count_below (λ w. f (m + w)) n
unfolding count_below
split f m zero = rw (add-zero m, add-zero (count_below f m))
split f m (suc n) = rw (add-suc m n, split f m n) (add_assoc (count_below f m) (count_below (λ w. f (m + w)) n) (cond (f (m + n)) 1 0))

-- no number passes both tests
pub one_of : (f g : ℕ → Bool) (n : ℕ) → ((w : ℕ) → f w ≡ true → g w ≡ false) → count_below (λ w. f w || g w) n ≡ count_below f n + count_below g n
unfolding count_below
one_of f g zero e = refl
one_of f g (suc n) e = rw (one_of f g n e) (by (count_below f n) (count_below g n) (f n) (g n) (e n))
  where
    by : (a b : ℕ) (s t : Bool) → (s ≡ true → t ≡ false) → a + b + cond (s || t) 1 0 ≡ a + cond s 1 0 + (b + cond t 1 0)
    by a b true t e = rw (e refl) (omega arith)
    by a b false true e = omega arith
    by a b false false e = omega arith

-- ---- a pattern: its first bit halves the words

-- as many words as the free bits allow
abbrev pub words_matching : List Bit → ℕ
words_matching [] = 1
words_matching (O ∷ p) = words_matching p
words_matching (I ∷ p) = words_matching p
words_matching (x ∷ p) = words_matching p + words_matching p

bit_below : (i n w : ℕ) → i < n → bit (2 ^ n + w) i ≡ bit w i
bit_below i n w h =
    let k = n - suc i in
    let e : 2 ^ n ≡ 2 ^ k * 2 * 2 ^ i =
    ap (λ (m : ℕ). 2 ^ m) (omega arith) ∙ pow-add 2 (suc k) i ∙ ap (λ (m : ℕ). m * 2 ^ i) (pow-suc 2 k) in
    let d : (2 ^ n + w) / 2 ^ i % 2 ≡ w / 2 ^ i % 2 =
    ap (λ (m : ℕ). (m + w) / 2 ^ i % 2) e
    ∙ ap (λ (m : ℕ). m % 2) (mul-add-div_right (pow_pos i) (2 ^ k * 2) w)
    ∙ mul-add-mod_self_right (2 ^ k) 2 (w / 2 ^ i) in
    ap (λ (m : ℕ). eqb m 1) d

bit_clear : (n w : ℕ) → w < 2 ^ n → bit w n ≡ false
bit_clear n w h = ap (λ (m : ℕ). eqb (m % 2) 1) (div-eq_of_lt h)

bit_set : (n w : ℕ) → w < 2 ^ n → bit (2 ^ n + w) n ≡ true
bit_set n w h = ap (λ (m : ℕ). eqb (m % 2) 1) (ap (λ (m : ℕ). (m + w) / 2 ^ n) (sym (one-mul (2 ^ n))) ∙ high 1 n h)

-- a bit above the pattern isn't looked at
not_seen : (p : List Bit) (n w : ℕ) → length p ≤ n → matches p (2 ^ n + w) ≡ matches p w
unfolding matches
not_seen [] n w h = refl
not_seen (b ∷ p) n w h = rw (bit_below (length p) n w h, not_seen p n w (omega arith))

-- the words with the first bit clear, and those with it set
module _ (b : Bit) (p : List Bit) where
  lower : count_below (matches (b ∷ p)) (2 ^ length p) ≡ count_below (λ w. agrees b false && matches p w) (2 ^ length p)
  unfolding matches
  lower = alike _ _ (2 ^ length p) (λ w h. rw (bit_clear (length p) w h))

  upper : count_below (λ w. matches (b ∷ p) (2 ^ length p + w)) (2 ^ length p) ≡ count_below (λ w. agrees b true && matches p w) (2 ^ length p)
  unfolding matches
  upper = alike _ _ (2 ^ length p) (λ w h. rw (bit_set (length p) w h, not_seen p (length p) w (le_refl (length p))))

  halved : count_below (matches (b ∷ p)) (2 ^ suc (length p))
      ≡ count_below (λ w. agrees b false && matches p w) (2 ^ length p) + count_below (λ w. agrees b true && matches p w) (2 ^ length p)
  halved =
      let e : 2 ^ suc (length p) ≡ 2 ^ length p + 2 ^ length p = pow-suc 2 (length p) ∙ omega arith in
      rw e (split (matches (b ∷ p)) (2 ^ length p) (2 ^ length p) ∙ rw (lower, upper))

pub words : (p : List Bit) → count_below (matches p) (2 ^ length p) ≡ words_matching p
unfolding matches count_below
words [] = refl
words (O ∷ p) = halved O p ∙ rw (none (2 ^ length p), words p, add-zero (words_matching p))
words (I ∷ p) = halved I p ∙ rw (none (2 ^ length p), words p, zero-add (words_matching p))
words (x ∷ p) = halved x p ∙ rw (words p)
