-- What a set of listed encodings makes of the list: the rows that it lacks are left out, and nothing else changes.
use mathlib.Core.Path.{◌≡◌, refl, ap, ◌∙◌}
use mathlib.Core.Bool.{Bool, true, false, not, ◌||◌, cond, true≢false}
use mathlib.Core.List.{List, [], ◌∷◌}
use mathlib.Core.Logic.{◌⊎◌, inl, inr}
use Prim.Native.Nat.{ℕ, zero, suc, ◌^◌}
use native.Mathlib.Omega.{arith}
use lib.Dec.{ltb}
use lib.ListN.{take, drop}
use borrow.Author.Tests.{le-ltb}
use Rattle.laws.proofs.Tests.{both}
use Rattle.isa.specs.Patterns.{matches}
use Rattle.isa.specs.ListedEncodings.{Row, row, decode_by, listed16, listed32, decode16_of}
use Rattle.isa.specs.Profiles.{Encodings, rows_in, decode16_by, full, compares_and_branches, small, profile_of, is_known}
use Rattle.isa.specs.declared.Instruction.{Instruction}
use Rattle.isa.specs.declared.Instruction.TheVariants.{Unlisted}
use Rattle.isa.specs.Rows.{matches_any, count_below}
use Rattle.isa.proofs.Theorems.{clear, apart, no_other, apart16, counted}

-- ---- what holds of whatever each row stands for holds of what is decoded

abbrev pub EachRow : (Instruction → Type 0) → List Row → Type 0
EachRow P [] = Unit {0}
EachRow P (row p means ∷ rows) = ((w : ℕ) → P (means w)) × EachRow P rows

module _ (P : Instruction → Type 0) where
  of_set : (encodings : Encodings) (rows : List Row) → EachRow P rows → EachRow P (rows_in encodings rows)
  unfolding rows_in
  of_set encodings [] h = tt
  of_set encodings (row p means ∷ rows) h = go (encodings (row p means)) (of_set encodings rows h.1)
    where
      go : (t : Bool) → EachRow P (rows_in encodings rows) → EachRow P (cond t (row p means ∷ rows_in encodings rows) (rows_in encodings rows))
      go true rest = (h.0, rest)
      go false rest = rest

  of_rows : P Unlisted → (rows : List Row) → EachRow P rows → (w : ℕ) → P (decode_by rows w)
  unfolding decode_by
  of_rows u [] h w = u
  of_rows u (row p means ∷ rows) h w = go (matches p w) (of_rows u rows h.1 w)
    where
      go : (t : Bool) → P (decode_by rows w) → P (cond t (means w) (decode_by rows w))
      go true rest = h.0 w
      go false rest = rest

  pub decoded : P Unlisted → (encodings : Encodings) (rows : List Row) → EachRow P rows → (w : ℕ) → P (decode_by (rows_in encodings rows) w)
  decoded u encodings rows h w = of_rows u (rows_in encodings rows) (of_set encodings rows h) w

-- ---- rows that are left out

-- the set has the row that w matches, if there is one
abbrev pub has_at : Encodings → List Row → ℕ → Bool
has_at encodings [] w = true
has_at encodings (row p means ∷ rows) w = cond (matches p w) (encodings (row p means)) (has_at encodings rows w)

no_match : (encodings : Encodings) (rows : List Row) (w : ℕ) → matches_any rows w ≡ false → decode_by (rows_in encodings rows) w ≡ Unlisted
unfolding rows_in decode_by
no_match encodings [] w e = refl
no_match encodings (row p means ∷ rows) w e = go (matches p w) (encodings (row p means)) refl e (no_match encodings rows w)
  where
    go : (m t : Bool) → matches p w ≡ m → (m || matches_any rows w) ≡ false
        → (matches_any rows w ≡ false → decode_by (rows_in encodings rows) w ≡ Unlisted)
        → decode_by (cond t (row p means ∷ rows_in encodings rows) (rows_in encodings rows)) w ≡ Unlisted
    go true t q e rest = absurd (true≢false e)
    go false true q e rest = rw q (rest e)
    go false false q e rest = rest e

pub by_set : (encodings : Encodings) (rows : List Row) → apart rows ≡ true → (w : ℕ)
    → decode_by (rows_in encodings rows) w ≡ cond (has_at encodings rows w) (decode_by rows w) Unlisted
unfolding rows_in decode_by
by_set encodings [] a w = refl
by_set encodings (row p means ∷ rows) a w =
    let d = both (clear p rows) (apart rows) a in
    go (matches p w) (encodings (row p means)) refl (by_set encodings rows d.1 w)
    (λ m. no_match encodings rows w (no_other p rows d.0 w m))
  where
    go : (m t : Bool) → matches p w ≡ m
        → decode_by (rows_in encodings rows) w ≡ cond (has_at encodings rows w) (decode_by rows w) Unlisted
        → (matches p w ≡ true → decode_by (rows_in encodings rows) w ≡ Unlisted)
        → decode_by (cond t (row p means ∷ rows_in encodings rows) (rows_in encodings rows)) w
        ≡ cond (cond m t (has_at encodings rows w)) (cond m (means w) (decode_by rows w)) Unlisted
    go true true q rest out = rw q
    go true false q rest out = out q
    go false true q rest out = rw q rest
    go false false q rest out = rest

-- ---- a set and a part of it

abbrev pub Subset : Encodings → Encodings → Type 0
Subset fewer more = (r : Row) → fewer r ≡ true → more r ≡ true

has_more : (fewer more : Encodings) → Subset fewer more → (rows : List Row) (w : ℕ) → has_at fewer rows w ≡ true → has_at more rows w ≡ true
has_more fewer more s [] w h = refl
has_more fewer more s (row p means ∷ rows) w h = go (matches p w) h (has_more fewer more s rows w)
  where
    go : (m : Bool) → cond m (fewer (row p means)) (has_at fewer rows w) ≡ true → (has_at fewer rows w ≡ true → has_at more rows w ≡ true)
        → cond m (more (row p means)) (has_at more rows w) ≡ true
    go true h rest = s (row p means) h
    go false h rest = rest h

-- what the smaller one decodes is unlisted, or the larger one decodes the same
pub same_or_unlisted : (fewer more : Encodings) → Subset fewer more → (rows : List Row) → apart rows ≡ true → (w : ℕ)
    → (decode_by (rows_in fewer rows) w ≡ Unlisted) ⊎ (decode_by (rows_in fewer rows) w ≡ decode_by (rows_in more rows) w)
same_or_unlisted fewer more s rows a w = go (has_at fewer rows w) refl
  where
    go : (t : Bool) → has_at fewer rows w ≡ t
        → (decode_by (rows_in fewer rows) w ≡ Unlisted) ⊎ (decode_by (rows_in fewer rows) w ≡ decode_by (rows_in more rows) w)
    go true q = inr (by_set fewer rows a w ∙ rw (q, by_set more rows a w, has_more fewer more s rows w q))
    go false q = inl (by_set fewer rows a w ∙ rw q)

-- ---- the two profiles

-- their numbers are those below 2
pub known_below : (number : ℕ) → ltb number 2 ≡ is_known (profile_of number)
known_below zero = refl
known_below (suc zero) = refl
known_below (suc (suc n)) = le-ltb (suc (suc n)) 2 (omega arith)

pub whole : (rows : List Row) → rows_in full rows ≡ rows
unfolding rows_in
whole [] = refl
whole (r ∷ rows) = ap (λ (rest : List Row). r ∷ rest) (whole rows)

pub none : (rows : List Row) → rows_in (λ r. false) rows ≡ []
unfolding rows_in
none [] = refl
none (r ∷ rows) = none rows

pub small_in_full : Subset small full
small_in_full r e = refl

abbrev digit_lem : Bool → ℕ
digit_lem true = 1
digit_lem false = 0

-- whatever the word, a row stands for what is lacked exactly where the set lacks the row
abbrev Told : Encodings → (Instruction → Bool) → List Row → Type 0
Told encodings lacks [] = Unit {0}
Told encodings lacks (row p means ∷ rows) =
    ((w : ℕ) → digit_lem (lacks (means w)) ≡ digit_lem (not (encodings (row p means)))) × Told encodings lacks rows

has_told : (encodings : Encodings) (lacks : Instruction → Bool) → lacks Unlisted ≡ false → (rows : List Row) → Told encodings lacks rows
    → (w : ℕ) → has_at encodings rows w ≡ not (lacks (decode_by rows w))
unfolding decode_by
has_told encodings lacks u [] h w = rw u
has_told encodings lacks u (row p means ∷ rows) h w =
    go (matches p w) (lacks (means w)) (encodings (row p means)) refl (h.0 w) (has_told encodings lacks u rows h.1 w)
  where
    go : (m s t : Bool) → lacks (means w) ≡ s → digit_lem s ≡ digit_lem (not t)
        → has_at encodings rows w ≡ not (lacks (decode_by rows w))
        → cond m t (has_at encodings rows w) ≡ not (lacks (cond m (means w) (decode_by rows w)))
    go true true true q n rest = absurd (omega arith)
    go true true false q n rest = rw q
    go true false true q n rest = rw q
    go true false false q n rest = absurd (omega arith)
    go false s t q n rest = rest

in_two : (encodings : Encodings) (lacks : Instruction → Bool) (n : ℕ) (rows : List Row)
    → Told encodings lacks (take n rows) → Told encodings lacks (drop n rows) → Told encodings lacks rows
in_two encodings lacks zero rows h k = k
in_two encodings lacks (suc n) [] h k = tt
in_two encodings lacks (suc n) (row p means ∷ rows) h k = (h.0, in_two encodings lacks n rows h.1 k)

told16 : Told small compares_and_branches listed16
told16 =
    let parts = in_two small compares_and_branches 17 in
    parts listed16 (omega arith) (parts (drop 17 listed16) (omega arith) (omega arith))

-- cbz and cbnz are unlisted in the small one, and every other halfword stands for what it stands for in the list
pub small16 : (h : ℕ) → decode16_by small h ≡ cond (not (compares_and_branches (decode16_of h))) (decode16_of h) Unlisted
small16 h = by_set small listed16 apart16 h ∙ rw (has_told small compares_and_branches refl listed16 told16 h)

-- no row of 32 bits is left
pub small32 : rows_in small listed32 ≡ []
unfolding rows_in
small32 = refl

-- ---- how many

pub small_number16 : count_below (matches_any (rows_in small listed16)) (2 ^ 16) ≡ 31802
unfolding rows_in
small_number16 = counted 16 (rows_in small listed16) refl refl

pub small_number32 : count_below (matches_any (rows_in small listed32)) (2 ^ 32) ≡ 0
unfolding rows_in
small_number32 = counted 32 (rows_in small listed32) refl refl
