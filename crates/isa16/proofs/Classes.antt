-- What the class of a halfword tells of its row, and what the top byte tells of its class.
use mathlib.Core.Path.{◌≡◌, refl, sym, ap, ◌∙◌}
use mathlib.Core.Bool.{Bool, true, false, not, ◌&&◌, ◌||◌, cond, true≢false, beq}
use mathlib.Core.List.{List, [], ◌∷◌}
use mathlib.Core.Logic.{⊎_elim}
use Prim.Native.Nat.{ℕ, ◌+◌, ◌*◌, ◌/◌, ◌%◌, ◌^◌, ◌<◌, ◌≤◌}
use native.Mathlib.Omega.{arith}
use lib.Dec.{eqb, ltb}
use lib.ListN.{length, take, drop, get_or-eq_default}
use borrow.Author.Tests.{eqb-true, ltb-true}
use Rattle.isa.specs.Patterns.{matches}
use Rattle.isa.specs.ListedEncodings.{Row, row, decode_by, lines16, listed16, decode16_of}
use Rattle.isa16.specs.Classes.{begins, class_of}
use Rattle.laws.proofs.Tests.{both, either, equal_tests}
use Rattle.isa.proofs.Theorems.{found, apart16, meaning_at}
use Rattle.isa.specs.Rows.{pattern_at, matches_any}
use Rattle.isa.specs.declared.Instruction.{Instruction}
use Rattle.isa.specs.declared.Instruction.TheVariants.{Unlisted}
use Rattle.laws.proofs.Runs.{every, run_lem, NoneOf, is_in, no_key}
use Rattle.isa16.proofs.Patterns.{free, prefix}
use Rattle.isa16.proofs.Lines.{line_at, in_line, line_begins}

-- ---- the class of a top byte

-- bytes of a run
pub in_run : (k i n : ℕ) → every (λ t. eqb k (class_of t)) i n ≡ true → (t : ℕ) → i ≤ t → t < i + n → k ≡ class_of t
in_run k i n e t l u = eqb-true k (class_of t) (run_lem (λ m. eqb k (class_of m)) i n e t l u)

-- bytes of a run that are no key of the two matches
pub no_line : (singles fives : List (List ℕ)) (i n : ℕ)
    → every (λ t. is_in singles t || (is_in fives (t / 2 ^ 3 % 2 ^ 5) || eqb 24 (class_of t))) i n ≡ true
    → (t : ℕ) → i ≤ t → t < i + n → NoneOf singles t → {five : ℕ} → five ≡ t / 2 ^ 3 % 2 ^ 5 → NoneOf fives five → 24 ≡ class_of t
no_line singles fives i n e t l u s {five} f g =
    let top = t / 2 ^ 3 % 2 ^ 5 in
    ⊎_elim
    (λ k. absurd (no_key singles t s k))
    (λ k. ⊎_elim (λ h. absurd (no_key fives five g (rw f h))) (λ h. eqb-true 24 (class_of t) h) (either (is_in fives top) (eqb 24 (class_of t)) k))
    (either (is_in singles t) (is_in fives top || eqb 24 (class_of t)) (run_lem (λ t. is_in singles t || (is_in fives (t / 2 ^ 3 % 2 ^ 5) || eqb 24 (class_of t))) i n e t l u))

-- ---- from the class to the row

pub class_row : (w : ℕ) → decode16_of w ≡ decode_by (line_at lines16 (class_of (w / 2 ^ 8))) w
unfolding class_of
class_row w = in_line lines16 refl refl w

class_begins : (t : ℕ) → class_of t < 24 → begins (line_at lines16 (class_of t)) t ≡ true
unfolding class_of
class_begins t h = line_begins t lines16 h

-- the rows stand for the same, whatever the low byte
abbrev pub Alike : (ℕ → Instruction) → List Row → Type 0
Alike m [] = Unit {0}
Alike m (row p f ∷ rows) = ((free (drop 8 p) && eqb (length (drop 8 p)) 8) ≡ true) × (f ≡ m) × Alike m rows

alike : (m : ℕ → Instruction) (rows : List Row) → Alike m rows → (w : ℕ) → begins rows (w / 2 ^ 8) ≡ true → decode_by rows w ≡ m w
unfolding decode_by
alike m [] a w b = absurd (true≢false (sym b))
alike m (row p f ∷ rows) a w b =
    go (alike m rows a.2 w) (matches p w) refl
  where
    here : matches p w ≡ matches (take 8 p) (w / 2 ^ 8)
    here = let d = both (free (drop 8 p)) (eqb (length (drop 8 p)) 8) a.0 in rw (eqb-true (length (drop 8 p)) 8 d.1) at (prefix 8 p w d.0)

    go : (begins rows (w / 2 ^ 8) ≡ true → decode_by rows w ≡ m w) → (t : Bool) → matches p w ≡ t → cond t (f w) (decode_by rows w) ≡ m w
    go later true e = ap (λ (g : ℕ → Instruction). g w) a.1
    go later false e = later (rw (sym here ∙ e) at b)

-- a class that the top byte settles
pub by_class : (k : ℕ) (m : ℕ → Instruction) → Alike m (line_at lines16 k) → k < 24 → (w : ℕ) → k ≡ class_of (w / 2 ^ 8) → m w ≡ decode16_of w
by_class k m a h w e =
    sym (class_row w
    ∙ ap (λ (j : ℕ). decode_by (line_at lines16 j) w) (sym e)
    ∙ alike m (line_at lines16 k) a w (rw (← e) at (class_begins (w / 2 ^ 8) (rw (← e) h))))

-- the top bytes of a class
pub class_tops : (k : ℕ) (f : ℕ → Bool) → every (λ t. not (begins (line_at lines16 k) t) || f t) 0 256 ≡ true → k < 24
    → (t : ℕ) → t < 256 → k ≡ class_of t → f t ≡ true
class_tops k f e h t l c =
    rw (rw (← c) at (class_begins t (rw (← c) h))) at (run_lem (λ t. not (begins (line_at lines16 k) t) || f t) 0 256 e t (omega arith) (omega arith))

-- no class: no row
pub no_class : (w k : ℕ) → k ≡ class_of (w / 2 ^ 8) → 24 ≤ k → Unlisted ≡ decode16_of w
unfolding decode_by
no_class w k e h =
    sym (class_row w ∙ ap (λ (rows : List Row). decode_by rows w) (get_or-eq_default lines16 [] {n = class_of (w / 2 ^ 8)} (rw (← e) h)))

-- ---- rows that bits below the top byte tell

-- the first ten bits are v
pub by_ten : (k v : ℕ) → (ltb k 50 && (free (drop 10 (pattern_at listed16 k)) && (eqb (length (drop 10 (pattern_at listed16 k))) 6 && matches (take 10 (pattern_at listed16 k)) v))) ≡ true
    → (w : ℕ) → w / 2 ^ 6 ≡ v → meaning_at listed16 k w ≡ decode16_of w
by_ten k v e w h =
    let p = pattern_at listed16 k in
    let a = both (ltb k 50) (free (drop 10 p) && (eqb (length (drop 10 p)) 6 && matches (take 10 p) v)) e in
    let b = both (free (drop 10 p)) (eqb (length (drop 10 p)) 6 && matches (take 10 p) v) a.1 in
    let c = both (eqb (length (drop 10 p)) 6) (matches (take 10 p) v) b.1 in
    sym (found listed16 apart16 w k (ltb-true k 50 a.0) (prefix 10 p w b.0 ∙ rw (eqb-true (length (drop 10 p)) 6 c.0, h) c.1))

abbrev pub Means : (ℕ → Instruction) → List Row → Type 0
Means m [] = Unit {0}
Means m (row p f ∷ rows) = (f ≡ m) × Means m rows

means : (m : ℕ → Instruction) (rows : List Row) → Means m rows → (w : ℕ) → decode_by rows w ≡ cond (matches_any rows w) (m w) Unlisted
unfolding decode_by
means m [] a w = refl
means m (row p f ∷ rows) a w = go (means m rows a.1 w) (matches p w)
  where
    go : decode_by rows w ≡ cond (matches_any rows w) (m w) Unlisted → (t : Bool) → cond t (f w) (decode_by rows w) ≡ cond (t || matches_any rows w) (m w) Unlisted
    go later true = ap (λ (g : ℕ → Instruction). g w) a.0
    go later false = later

-- a low byte of a run, under one top byte: listed or not
pub by_low : (top k : ℕ) → k ≡ class_of top → (m : ℕ → Instruction) → Means m (line_at lines16 k) → (b : Bool) (i n : ℕ)
    → every (λ l. beq (matches_any (line_at lines16 k) (top * 2 ^ 8 + l)) b) i n ≡ true
    → (w : ℕ) → w / 2 ^ 8 ≡ top → i ≤ w % 2 ^ 8 → w % 2 ^ 8 < i + n → cond b (m w) Unlisted ≡ decode16_of w
by_low top k c m a b i n e w h l u =
    let whole : top * 2 ^ 8 + w % 2 ^ 8 ≡ w = omega arith in
    let t : matches_any (line_at lines16 k) w ≡ b =
    equal_tests _ b (rw whole at (run_lem (λ l. beq (matches_any (line_at lines16 k) (top * 2 ^ 8 + l)) b) i n e (w % 2 ^ 8) l u)) in
    sym (class_row w ∙ rw (h, ← c) (means m (line_at lines16 k) a w ∙ ap (λ (s : Bool). cond s (m w) Unlisted) t))
