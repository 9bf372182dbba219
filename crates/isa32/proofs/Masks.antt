-- A pattern is matched where the fixed bits, under a mask, are its value.
use mathlib.Core.Path.{◌≡◌, refl, sym, ap, ◌∙◌}
use mathlib.Core.Bool.{true, false, ◌&&◌}
use mathlib.Core.List.{List, [], ◌∷◌}
use Prim.Native.Nat.{ℕ, suc, ◌+◌, ◌*◌, ◌/◌, ◌%◌, ◌^◌, ◌<◌}
use native.Mathlib.Decide.{ℕ_discrete}
use native.Mathlib.Nat.{lt_of_le_of_lt, mod-lt, mod-eq_of_lt}
use native.Mathlib.Omega.{arith}
use lib.Dec.{eqb, ltb}
use lib.ListN.{length}
use lib.Bits.{bit_and, and_block, and_mask, and_mod, and_le_r, and_zero_r}
use lib.Pow.{pow_pos, split, high, low}
use borrow.Author.Tests.{eq-eqb, ne_eqb, ltb-true}
use Rattle.bits.specs.Fields.{bit}
use Rattle.isa.specs.Patterns.{Bit, O, I, x, agrees, matches}
use Rattle.isa.specs.ListedEncodings.{Row, decode_by}
use Rattle.isa.specs.Rows.{pattern_at}
use Rattle.isa.proofs.Theorems.{meaning_at, apart, found}

-- the bit of the mask, and of the value
abbrev pub fixed : Bit → ℕ
fixed O = 1
fixed I = 1
fixed x = 0

abbrev pub set : Bit → ℕ
set O = 0
set I = 1
set x = 0

abbrev pub mask_of : List Bit → ℕ
mask_of [] = 0
mask_of (b ∷ p) = fixed b * 2 ^ length p + mask_of p

abbrev pub value_of : List Bit → ℕ
value_of [] = 0
value_of (b ∷ p) = set b * 2 ^ length p + value_of p

clear_top : (k m : ℕ) → m < 2 ^ k → 0 * 2 ^ k + m < 2 ^ suc k
clear_top k m h = omega arith

set_top : (k m : ℕ) → m < 2 ^ k → 1 * 2 ^ k + m < 2 ^ suc k
set_top k m h = omega arith

below_lem : (p : List Bit) → (mask_of p < 2 ^ length p) × (value_of p < 2 ^ length p)
below_lem [] = (omega arith, omega arith)
below_lem (O ∷ p) = let h = below_lem p in (set_top (length p) (mask_of p) h.0, clear_top (length p) (value_of p) h.1)
below_lem (I ∷ p) = let h = below_lem p in (set_top (length p) (mask_of p) h.0, set_top (length p) (value_of p) h.1)
below_lem (x ∷ p) = let h = below_lem p in (clear_top (length p) (mask_of p) h.0, clear_top (length p) (value_of p) h.1)

-- the bits above k, and those below
pair_test : (k a r s v : ℕ) → r < 2 ^ k → v < 2 ^ k → eqb (a * 2 ^ k + r) (s * 2 ^ k + v) ≡ (eqb a s && eqb r v)
pair_test k a r s v h l = elim (ℕ_discrete a s) [
  | yes e ↦ elim (ℕ_discrete r v) [
    | yes f ↦ rw (e, f, eq-eqb s s refl, eq-eqb v v refl, eq-eqb (s * 2 ^ k + v) (s * 2 ^ k + v) refl)
    | no f ↦ rw (eq-eqb a s e, ne_eqb r v f, ne_eqb (a * 2 ^ k + r) (s * 2 ^ k + v) (λ n. f (sym (low a k h) ∙ ap (λ (m : ℕ). m % 2 ^ k) n ∙ low s k l)))
  ]
  | no e ↦ rw (ne_eqb a s e, ne_eqb (a * 2 ^ k + r) (s * 2 ^ k + v) (λ n. e (sym (high a k h) ∙ ap (λ (m : ℕ). m / 2 ^ k) n ∙ high s k l)))
]

one_bit : (b : Bit) (w k : ℕ) → agrees b (bit w k) ≡ eqb (bit_and (w / 2 ^ k) (fixed b)) (set b)
one_bit O w k = rw (and_mask (w / 2 ^ k) 1) (elim (ℕ_discrete (w / 2 ^ k % 2) 1) [
  | yes e ↦ rw e
  | no e ↦ let z : w / 2 ^ k % 2 ≡ 0 = omega arith in rw z
])
one_bit I w k = rw (and_mask (w / 2 ^ k) 1)
one_bit x w k = rw and_zero_r

pub masked : (p : List Bit) (w : ℕ) → matches p w ≡ eqb (bit_and w (mask_of p)) (value_of p)
unfolding matches
masked [] w = rw and_zero_r
masked (b ∷ p) w =
    let k = length p in
    let m = mask_of p in
    let h = below_lem p in
    let lows : bit_and (w % 2 ^ k) m ≡ bit_and w m =
    ap (bit_and (w % 2 ^ k)) (sym (mod-eq_of_lt h.0)) ∙ sym (and_mod w m k) ∙ mod-eq_of_lt (lt_of_le_of_lt (and_le_r w m) h.0) in
    let parts : bit_and w (fixed b * 2 ^ k + m) ≡ bit_and (w / 2 ^ k) (fixed b) * 2 ^ k + bit_and w m =
    ap (λ (n : ℕ). bit_and n (fixed b * 2 ^ k + m)) (sym (split w k))
    ∙ and_block k (w / 2 ^ k) (fixed b) (w % 2 ^ k) m (mod-lt w (pow_pos k)) h.0
    ∙ ap (λ (n : ℕ). bit_and (w / 2 ^ k) (fixed b) * 2 ^ k + n) lows in
    rw (parts, pair_test k (bit_and (w / 2 ^ k) (fixed b)) (bit_and w m) (set b) (value_of p) (lt_of_le_of_lt (and_le_r w m) h.0) h.1, one_bit b w k, masked p w)

pub hit : (p : List Bit) (w : ℕ) → bit_and w (mask_of p) ≡ value_of p → matches p w ≡ true
hit p w e = masked p w ∙ eq-eqb _ _ e

pub miss : (p : List Bit) (w : ℕ) → (bit_and w (mask_of p) ≡ value_of p → ⊥) → matches p w ≡ false
miss p w e = masked p w ∙ ne_eqb _ _ e

-- the row whose mask and value the code tests
pub by_mask : (rows : List Row) → apart rows ≡ true → (k w : ℕ) → ltb k (length rows) ≡ true
    → bit_and w (mask_of (pattern_at rows k)) ≡ value_of (pattern_at rows k) → meaning_at rows k w ≡ decode_by rows w
by_mask rows a k w h e = sym (found rows a w k (ltb-true k (length rows) h) (hit (pattern_at rows k) w e))
