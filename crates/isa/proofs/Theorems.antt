-- No halfword, and no pair of halfwords, matches two rows; and how many are listed.
use mathlib.Core.Path.{◌≡◌, refl, sym, ap, ◌∙◌}
use mathlib.Core.Bool.{Bool, true, false, not, ◌&&◌, ◌||◌, true≢false}
use mathlib.Core.Logic.{⊎_elim}
use mathlib.Core.List.{List, [], ◌∷◌}
use Prim.Native.Nat.{ℕ, zero, suc, ◌+◌, ◌^◌, ◌≤◌, ◌<◌}
use native.Mathlib.Nat.{le_of_suc-le-suc, not-suc-le-zero}
use lib.Dec.{eqb}
use lib.ListN.{length}
use borrow.Author.Tests.{eqb-true, not-true}
use Rattle.laws.proofs.Tests.{both, either, fails}
use Rattle.laws.proofs.Runs.{run_lem}
use Rattle.bits.specs.Fields.{bit}
use Rattle.isa.specs.Patterns.{Bit, agrees, matches}
use Rattle.isa.specs.ListedEncodings.{Row, row, decode_by, listed16, listed32}
use Rattle.isa.specs.declared.Instruction.{Instruction}
use Rattle.isa.specs.declared.Instruction.TheVariants.{Unlisted}
use Rattle.isa.specs.Rows.{pattern_at, matches_any, count_below}
use Rattle.isa.proofs.Counting.{none, one_of, words_matching, words}

abbrev pub meaning_at : List Row → ℕ → ℕ → Instruction
meaning_at [] k w = Unlisted
meaning_at (row p m ∷ rows) zero w = m w
meaning_at (row p m ∷ rows) (suc k) w = meaning_at rows k w

-- ---- two patterns of one length that fix a bit differently

-- no bit agrees with both
abbrev pub opposite : Bit → Bit → Bool
opposite a b = not ((agrees a true && agrees b true) || (agrees a false && agrees b false))

abbrev pub conflict : List Bit → List Bit → Bool
conflict [] q = false
conflict (a ∷ p) [] = false
conflict (a ∷ p) (b ∷ q) = (eqb (length p) (length q) && opposite a b) || conflict p q

apart_bits : (a b : Bit) (v : Bool) → opposite a b ≡ true → agrees a v ≡ true → agrees b v ≡ true → ⊥
apart_bits a b true o p q = true≢false (sym (rw (p, q) at o))
apart_bits a b false o p q = true≢false (sym (by (agrees a true && agrees b true) (rw (p, q) at o)))
  where
    by : (t : Bool) → not (t || true) ≡ true → false ≡ true
    by true e = e
    by false e = e

pub conflicting : (p q : List Bit) (w : ℕ) → conflict p q ≡ true → matches p w ≡ true → matches q w ≡ true → ⊥
unfolding matches
conflicting [] q w e m n = true≢false (sym e)
conflicting (a ∷ p) [] w e m n = true≢false (sym e)
conflicting (a ∷ p) (b ∷ q) w e m n =
    let pm = both (agrees a (bit w (length p))) (matches p w) m in
    let qm = both (agrees b (bit w (length q))) (matches q w) n in
    ⊎_elim
    (λ d.
    let here = both (eqb (length p) (length q)) (opposite a b) d in
    apart_bits a b (bit w (length p)) here.1 pm.0 (rw (eqb-true (length p) (length q) here.0) qm.0))
    (λ d. conflicting p q w d pm.1 qm.1)
    (either (eqb (length p) (length q) && opposite a b) (conflict p q) e)

-- p conflicts with each row; each row with every later one
abbrev pub clear : List Bit → List Row → Bool
clear p [] = true
clear p (row q m ∷ rows) = conflict p q && clear p rows

abbrev pub apart : List Row → Bool
apart [] = true
apart (row p m ∷ rows) = clear p rows && apart rows

pub cleared : (p : List Bit) (rows : List Row) (w : ℕ) → clear p rows ≡ true → matches p w ≡ true
    → (k : ℕ) → k < length rows → matches (pattern_at rows k) w ≡ true → ⊥
cleared p [] w c m k h n = absurd (not-suc-le-zero h)
cleared p (row q f ∷ rows) w c m zero h n = conflicting p q w (both (conflict p q) (clear p rows) c).0 m n
cleared p (row q f ∷ rows) w c m (suc k) h n = cleared p rows w (both (conflict p q) (clear p rows) c).1 m k (le_of_suc-le-suc h) n

-- w matches no two rows
one_row : (rows : List Row) → apart rows ≡ true → (w i j : ℕ) → i < j → j < length rows
    → matches (pattern_at rows i) w ≡ true → matches (pattern_at rows j) w ≡ true → ⊥
one_row [] a w i j l h m n = absurd (not-suc-le-zero h)
one_row (row p f ∷ rows) a w i zero l h m n = absurd (not-suc-le-zero l)
one_row (row p f ∷ rows) a w zero (suc j) l h m n = cleared p rows w (both (clear p rows) (apart rows) a).0 m j (le_of_suc-le-suc h) n
one_row (row p f ∷ rows) a w (suc i) (suc j) l h m n = one_row rows (both (clear p rows) (apart rows) a).1 w i j (le_of_suc-le-suc l) (le_of_suc-le-suc h) m n

pub apart16 : apart listed16 ≡ true
apart16 = refl

pub apart32 : apart listed32 ≡ true
apart32 = refl

-- no halfword matches two rows
pub one_row16 : (w i j : ℕ) → i < j → j < length listed16
    → matches (pattern_at listed16 i) w ≡ true → matches (pattern_at listed16 j) w ≡ true → ⊥
one_row16 = one_row listed16 apart16

-- no pair of halfwords does
pub one_row32 : (w i j : ℕ) → i < j → j < length listed32
    → matches (pattern_at listed32 i) w ≡ true → matches (pattern_at listed32 j) w ≡ true → ⊥
one_row32 = one_row listed32 apart32

-- so a row that w matches is the one that is found
pub found : (rows : List Row) → apart rows ≡ true → (w k : ℕ) → k < length rows
    → matches (pattern_at rows k) w ≡ true → decode_by rows w ≡ meaning_at rows k w
unfolding decode_by
found [] a w k h m = absurd (not-suc-le-zero h)
found (row p f ∷ rows) a w zero h m = rw m
found (row p f ∷ rows) a w (suc k) h m =
    rw (fails (λ e. cleared p rows w (both (clear p rows) (apart rows) a).0 e k (le_of_suc-le-suc h) m))
    (found rows (both (clear p rows) (apart rows) a).1 w k (le_of_suc-le-suc h) m)

-- ---- how many

-- the words of each row, added up
abbrev pub sum_over : List Row → ℕ
sum_over [] = 0
sum_over (row p m ∷ rows) = words_matching p + sum_over rows

-- each pattern has n bits
abbrev pub of_length : ℕ → List Row → Bool
of_length n [] = true
of_length n (row p m ∷ rows) = eqb (length p) n && of_length n rows

pub no_other : (p : List Bit) (rows : List Row) → clear p rows ≡ true → (w : ℕ) → matches p w ≡ true → matches_any rows w ≡ false
no_other p [] c w m = refl
no_other p (row q f ∷ rows) c w m =
    let d = both (conflict p q) (clear p rows) c in
    rw (fails (conflicting p q w d.0 m), no_other p rows d.1 w m)

pub counted : (n : ℕ) (rows : List Row) → apart rows ≡ true → of_length n rows ≡ true → count_below (matches_any rows) (2 ^ n) ≡ sum_over rows
counted n [] a l = none (2 ^ n)
counted n (row p m ∷ rows) a l =
    let d = both (clear p rows) (apart rows) a in
    let k = both (eqb (length p) n) (of_length n rows) l in
    let e : count_below (matches p) (2 ^ n) ≡ words_matching p = ap (λ (i : ℕ). count_below (matches p) (2 ^ i)) (sym (eqb-true (length p) n k.0)) ∙ words p in
    one_of (matches p) (matches_any rows) (2 ^ n) (no_other p rows d.0) ∙ rw (e, counted n rows d.1 k.1)

pub number16 : count_below (matches_any listed16) (2 ^ 16) ≡ 32826
number16 = counted 16 listed16 apart16 refl

pub number32 : count_below (matches_any listed32) (2 ^ 32) ≡ 1475584
number32 = counted 32 listed32 apart32 refl

-- ---- the ruling on 1101xxxx: DExx is undefined in the manual, and no row matches it

pub de_unlisted : (h : ℕ) → 0xDE00 ≤ h → h < 0xDF00 → matches_any listed16 h ≡ false
unfolding matches
de_unlisted h l u = not-true (matches_any listed16 h) (run_lem (λ k. not (matches_any listed16 k)) 0xDE00 256 refl h l u)
