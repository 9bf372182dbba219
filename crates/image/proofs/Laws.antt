-- The turns of the loops over an index, and what a page is of an image.
use Prim.Native.Nat.{ℕ, zero, suc, ◌+◌, ◌*◌, ◌<◌, ◌≤◌}
use native.Mathlib.Omega.{arith}
use mathlib.Core.Bool.{Bool, true, false, true≢false}
use mathlib.Core.List.{List, [], ◌∷◌, ◌++◌}
use mathlib.Core.Path.{◌≡◌, refl, sym, ap, ◌∙◌}
use lib.Dec.{eqb}
use lib.ListN.{length, get_or, take, set}
use lib.Seq.{take-suc, take-suc-set, take_all, paste}
use borrow.Author.Tests.{eqb-true, eq-eqb}
use Rattle.laws.proofs.Tests.{both}
use Rattle.image.specs.Images.{Image, pages_in, with_page_at}
use Rattle.image.specs.Index.{count_at, each_from, counts_in, equal_lists}

-- ---- counts

each_length : (f : ℕ → ℕ) (p n : ℕ) → length (each_from f p n) ≡ n
each_length f p zero = refl
each_length f p (suc n) = ap suc (each_length f (p + 1) n)

each_among : (f : ℕ → ℕ) (p n k : ℕ) → k < n → get_or (each_from f p n) k 0 ≡ f (p + k)
each_among f p zero k l = absurd (omega arith)
each_among f p (suc n) zero l = let here : p ≡ p + 0 = omega arith in ap f here
each_among f p (suc n) (suc k) l =
    let next : p + 1 + k ≡ p + suc k = omega arith in
    each_among f (p + 1) n k (omega arith) ∙ ap f next

pub counts_length : (image : Image) → length (counts_in image) ≡ pages_in image.bytes
counts_length image = each_length (count_at image) 0 (pages_in image.bytes)

pub count_among : (image : Image) (p : ℕ) → p < pages_in image.bytes → get_or (counts_in image) p 0 ≡ count_at image p
count_among image p l =
    let from : 0 + p ≡ p = omega arith in
    each_among (count_at image) 0 (pages_in image.bytes) p l ∙ ap (count_at image) from

-- ---- equal lists

pub equal_true : (xs ys : List ℕ) → equal_lists xs ys ≡ true → xs ≡ ys
unfolding equal_lists
equal_true [] [] e = refl
equal_true [] (y ∷ ys) e = absurd (true≢false (sym e))
equal_true (x ∷ xs) [] e = absurd (true≢false (sym e))
equal_true (x ∷ xs) (y ∷ ys) e =
    let h = both (eqb x y) (equal_lists xs ys) e in
    λ i. eqb-true x y h.0 i ∷ equal_true xs ys h.1 i

pub true_equal : (xs : List ℕ) → equal_lists xs xs ≡ true
unfolding equal_lists
true_equal [] = refl
true_equal (x ∷ xs) = rw (eq-eqb x x refl) (true_equal xs)

pub differ : (xs ys : List ℕ) → (xs ≡ ys → ⊥) → equal_lists xs ys ≡ false
differ xs ys n = go (equal_lists xs ys) refl
  where
    go : (t : Bool) → equal_lists xs ys ≡ t → t ≡ false
    go true e = absurd (n (equal_true xs ys e))
    go false e = refl

-- ---- turns, as far as an index is as long as it has to be

module _ (image : Image) (index : List ℕ) (whole : length index ≡ pages_in image.bytes) where
  counted : length index ≡ length (counts_in image)
  counted = whole ∙ sym (counts_length image)

  next_count : (p : ℕ) → p < length index → take (suc p) (counts_in image) ≡ take p (counts_in image) ++ (count_at image p ∷ [])
  next_count p l =
      take-suc (counts_in image) p 0 (omega (arith, counted)) ∙ rw (count_among image p (omega (arith, whole)))

  -- the count of page p is stored
  pub fill_turn : (p n : ℕ) → p < length index → take p index ≡ take p (counts_in image) → n ≡ count_at image p
      → take (p + 1) (set index p n) ≡ take (p + 1) (counts_in image)
  fill_turn p n l h s = let next : p + 1 ≡ suc p = omega arith in rw (next, take-suc-set index p n l, next_count p l, h, s)

  -- the byte of page p is its count
  pub same_turn : (p : ℕ) → p < length index → take p index ≡ take p (counts_in image) → get_or index p 0 ≡ count_at image p
      → take (p + 1) index ≡ take (p + 1) (counts_in image)
  same_turn p l h s = let next : p + 1 ≡ suc p = omega arith in rw (next, take-suc index p 0 l, next_count p l, h, s)

  -- it isn't
  pub other_byte : (p : ℕ) → p < length index → (get_or index p 0 ≡ count_at image p → ⊥) → index ≡ counts_in image → ⊥
  other_byte p l n e =
      n (ap (λ xs. get_or xs p 0) e ∙ count_among image p (omega (arith, whole)))

  pub all_same : (p : ℕ) → length index ≤ p → take p index ≡ take p (counts_in image) → index ≡ counts_in image
  all_same p l h = sym (take_all p index l) ∙ h ∙ take_all p (counts_in image) (omega (arith, counted))

-- another length
pub other_length : (image : Image) (index : List ℕ) → (length index ≡ pages_in image.bytes → ⊥) → index ≡ counts_in image → ⊥
other_length image index n e = n (ap length e ∙ counts_length image)

-- ---- a part of an image

pub pasted : (bytes page : List ℕ) (p : ℕ) → length page ≡ 256 → paste bytes (256 * p) page 256 ≡ with_page_at bytes p page
pasted bytes page p e = rw (take_all 256 page (omega (arith, e)))
