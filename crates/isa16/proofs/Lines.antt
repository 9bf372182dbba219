-- The line of a 16-bit row is told by the top byte.
use mathlib.Core.Path.{◌≡◌, refl, sym, ap, ◌∙◌}
use mathlib.Core.Bool.{Bool, true, false, ◌&&◌, cond, true≢false}
use mathlib.Core.List.{List, [], ◌∷◌, ◌++◌, append-nil}
use mathlib.Core.Logic.{⊎_elim}
use Prim.Native.Nat.{ℕ, suc, ◌/◌, ◌^◌, ◌<◌}
use native.Mathlib.Nat.{le_of_suc-le-suc, not-suc-le-zero}
use lib.Dec.{eqb}
use lib.ListN.{length, get_or, take, drop}
use borrow.Author.Tests.{eqb-true}
use Rattle.isa.specs.Patterns.{Bit, matches}
use Rattle.isa.specs.ListedEncodings.{Row, row, decode_by, join_lines}
use Rattle.isa16.specs.Classes.{begins, line_number}
use Rattle.laws.proofs.Tests.{both, either, second, fails}
use Rattle.isa.proofs.Theorems.{conflict, conflicting}
use Rattle.isa.specs.declared.Instruction.TheVariants.{Unlisted}
use Rattle.isa16.proofs.Patterns.{cut}

abbrev pub line_at : List (List Row) → ℕ → List Row
line_at lines k = get_or lines k []

-- eight bits follow the top byte in each pattern
abbrev pub sized : List Row → Bool
sized [] = true
sized (row p m ∷ rows) = eqb (length (drop 8 p)) 8 && sized rows

sized_rest : (rows rest : List Row) → sized (rows ++ rest) ≡ true → sized rest ≡ true
sized_rest [] rest s = s
sized_rest (row p m ∷ rows) rest s = sized_rest rows rest (both (eqb (length (drop 8 p)) 8) (sized (rows ++ rest)) s).1

-- what w matches, its top byte begins
top : (p : List Bit) (w : ℕ) → length (drop 8 p) ≡ 8 → matches p w ≡ true → matches (take 8 p) (w / 2 ^ 8) ≡ true
top p w l e = (both (matches (take 8 p) (w / 2 ^ 8)) (matches (drop 8 p) w) (rw l at (sym (cut 8 p w) ∙ e))).0

module _ (w : ℕ) where
  -- rows that the top byte does not begin are passed
  skip : (rows rest : List Row) → sized (rows ++ rest) ≡ true → begins rows (w / 2 ^ 8) ≡ false → decode_by (rows ++ rest) w ≡ decode_by rest w
  unfolding decode_by
  skip [] rest s b = refl
  skip (row p m ∷ rows) rest s b =
      let l = both (eqb (length (drop 8 p)) 8) (sized (rows ++ rest)) s in
      let miss : matches p w ≡ false = fails (λ e. true≢false (rw (top p w (eqb-true _ _ l.0) e) at b)) in
      rw miss (skip rows rest l.1 (second (matches (take 8 p) (w / 2 ^ 8)) (begins rows (w / 2 ^ 8)) b))

  none : (rows : List Row) → sized rows ≡ true → begins rows (w / 2 ^ 8) ≡ false → decode_by rows w ≡ Unlisted
  unfolding decode_by
  none rows s b = rw append-nil at (skip rows [] (rw append-nil s) b)

  -- rows that it does not begin are not reached
  stop : (rows rest : List Row) → sized rest ≡ true → begins rest (w / 2 ^ 8) ≡ false → decode_by (rows ++ rest) w ≡ decode_by rows w
  unfolding decode_by
  stop [] rest s b = none rest s b
  stop (row p m ∷ rows) rest s b = ap (cond (matches p w) (m w)) (stop rows rest s b)

-- ---- lines whose rows begin with different top bytes

abbrev pub tops_clear : List Bit → List Row → Bool
tops_clear p [] = true
tops_clear p (row q m ∷ rows) = conflict (take 8 p) (take 8 q) && tops_clear p rows

abbrev pub tops_apart : List Row → List Row → Bool
tops_apart [] rest = true
tops_apart (row p m ∷ rows) rest = tops_clear p rest && tops_apart rows rest

abbrev pub separate : List (List Row) → Bool
separate [] = true
separate (rows ∷ lines) = tops_apart rows (join_lines lines) && separate lines

module _ (t : ℕ) where
  not_row : (p : List Bit) (rest : List Row) → tops_clear p rest ≡ true → matches (take 8 p) t ≡ true → begins rest t ≡ false
  not_row p [] c e = refl
  not_row p (row q m ∷ rest) c e =
      let d = both (conflict (take 8 p) (take 8 q)) (tops_clear p rest) c in
      let miss : matches (take 8 q) t ≡ false = fails (λ k. conflicting (take 8 p) (take 8 q) t d.0 e k) in
      rw miss (not_row p rest d.1 e)

  not_later : (rows rest : List Row) → tops_apart rows rest ≡ true → begins rows t ≡ true → begins rest t ≡ false
  not_later [] rest a e = absurd (true≢false (sym e))
  not_later (row p m ∷ rows) rest a e =
      let d = both (tops_clear p rest) (tops_apart rows rest) a in
      ⊎_elim (λ k. not_row p rest d.0 k) (λ k. not_later rows rest d.1 k) (either (matches (take 8 p) t) (begins rows t) e)

  -- the line that is found has such a row
  pub line_begins : (lines : List (List Row)) → line_number lines t < length lines → begins (line_at lines (line_number lines t)) t ≡ true
  line_begins [] h = absurd (not-suc-le-zero h)
  line_begins (rows ∷ lines) h = go (line_begins lines) (begins rows t) refl h
    where
      go : (line_number lines t < length lines → begins (line_at lines (line_number lines t)) t ≡ true)
          → (b : Bool) → begins rows t ≡ b → cond b 0 (suc (line_number lines t)) < suc (length lines)
          → begins (line_at (rows ∷ lines) (cond b 0 (suc (line_number lines t)))) t ≡ true
      go later true e l = e
      go later false e l = later (le_of_suc-le-suc l)

-- a row is looked for in one line only
pub in_line : (lines : List (List Row)) → separate lines ≡ true → sized (join_lines lines) ≡ true → (w : ℕ)
    → decode_by (join_lines lines) w ≡ decode_by (line_at lines (line_number lines (w / 2 ^ 8))) w
in_line [] p s w = refl
in_line (rows ∷ lines) p s w =
    let d = both (tops_apart rows (join_lines lines)) (separate lines) p in
    let r = sized_rest rows (join_lines lines) s in
    go d.0 r (in_line lines d.1 r w) (begins rows (w / 2 ^ 8)) refl
  where
    go : tops_apart rows (join_lines lines) ≡ true → sized (join_lines lines) ≡ true
        → decode_by (join_lines lines) w ≡ decode_by (line_at lines (line_number lines (w / 2 ^ 8))) w
        → (b : Bool) → begins rows (w / 2 ^ 8) ≡ b
        → decode_by (rows ++ join_lines lines) w ≡ decode_by (line_at (rows ∷ lines) (cond b 0 (suc (line_number lines (w / 2 ^ 8))))) w
    go a r later true e = stop w rows (join_lines lines) r (not_later (w / 2 ^ 8) rows (join_lines lines) a e)
    go a r later false e = skip w rows (join_lines lines) s e ∙ later
