-- An image with another page: what stays, and what is put.
use Prim.Native.Nat.{ℕ, ◌+◌, ◌-◌, ◌*◌, ◌<◌, ◌≤◌, min}
use native.Mathlib.Omega.{arith}
use native.Mathlib.Decide.{dec_le}
use mathlib.Core.List.{List, ◌++◌, append_assoc}
use mathlib.Core.Path.{◌≡◌, sym, ap, ◌∙◌}
use lib.ListN.{length, get_or, take, drop, length-take, length-drop, get_or-append}
use lib.Seq.{length-take-le, take_all, take_at, drop_at, get_or-take, get_or-drop, ext_get_or, paste, length-paste, take-paste, drop-paste}
use Rattle.image.specs.Images.{pages_in, page_at, with_page_at}
use Rattle.image.proofs.Laws.{pasted}

-- ---- a part that is pasted into a list

module _ (xs part : List ℕ) (at n : ℕ) (inside : at + n ≤ length xs) (whole : n ≤ length part) where
  head_length : length (take at xs) ≡ at
  head_length = length-take-le at xs (omega (arith, inside))

  pasted_part : take n (drop at (paste xs at part n)) ≡ take n part
  pasted_part =
      ap (λ ys. take n (drop at ys)) (append_assoc (take at xs) (take n part) (drop (at + n) xs))
      ∙ ap (take n) (drop_at (take at xs) (take n part ++ drop (at + n) xs) at head_length)
      ∙ take_at (take n part) (drop (at + n) xs) n (length-take-le n part whole)

  before : (k : ℕ) → k < at → get_or (paste xs at part n) k 0 ≡ get_or xs k 0
  before k l =
      sym (get_or-take (at + n) (paste xs at part n) k 0 (omega arith))
      ∙ ap (λ ys. get_or ys k 0) (take-paste xs at part n (omega (arith, inside)) whole)
      ∙ get_or-append (take at xs) (take n part) 0 k (omega (arith, head_length)) ∙ get_or-take at xs k 0 l

  behind : (k : ℕ) → at + n ≤ k → get_or (paste xs at part n) k 0 ≡ get_or xs k 0
  behind k l =
      let from : at + n + (k - (at + n)) ≡ k = omega arith in
      sym (ap (λ i. get_or (paste xs at part n) i 0) from) ∙ sym (get_or-drop (at + n) (paste xs at part n) (k - (at + n)) 0)
      ∙ ap (λ ys. get_or ys (k - (at + n)) 0) (drop-paste xs at part n (omega (arith, inside)) whole)
      ∙ get_or-drop (at + n) xs (k - (at + n)) 0 ∙ ap (λ i. get_or xs i 0) from

-- ---- a page

module _ (bytes page : List ℕ) (p : ℕ) (whole : length page ≡ 256) (inside : p < pages_in bytes) where
  fits : 256 * p + 256 ≤ length bytes
  fits = omega (arith, inside)

  enough : 256 ≤ length page
  enough = omega (arith, whole)

  as_pasted : with_page_at bytes p page ≡ paste bytes (256 * p) page 256
  as_pasted = sym (pasted bytes page p whole)

  pub put_length : length (with_page_at bytes p page) ≡ length bytes
  put_length = ap length as_pasted ∙ length-paste bytes (256 * p) page 256 fits enough

  pub put_page : page_at (with_page_at bytes p page) p ≡ page
  put_page =
      ap (λ ys. page_at ys p) as_pasted ∙ pasted_part bytes page (256 * p) 256 fits enough ∙ take_all 256 page (omega (arith, whole))

  byte_outside : (k : ℕ) → (256 * p ≤ k → 256 * p + 256 ≤ k) → get_or (with_page_at bytes p page) k 0 ≡ get_or bytes k 0
  byte_outside k apart =
      ap (λ ys. get_or ys k 0) as_pasted
      ∙ elim (dec_le (256 * p) k) [
        | yes l ↦ behind bytes page (256 * p) 256 fits enough k (apart l)
        | no l ↦ before bytes page (256 * p) 256 fits enough k (omega arith)
      ]

-- another page of the image, or one past it, is what it was
pub other_page : (bytes page : List ℕ) (p q : ℕ) → length page ≡ 256 → p < pages_in bytes → (q ≡ p → ⊥)
    → page_at (with_page_at bytes p page) q ≡ page_at bytes q
other_page bytes page p q whole inside apart =
    ext_get_or 0 (page_at (with_page_at bytes p page) q) (page_at bytes q) lengths (λ i l. at_byte i (within i l))
  where
    dropped : length (drop (256 * q) (with_page_at bytes p page)) ≡ length (drop (256 * q) bytes)
    dropped =
        length-drop (256 * q) (with_page_at bytes p page) ∙ ap (λ n. n - 256 * q) (put_length bytes page p whole inside) ∙ sym (length-drop (256 * q) bytes)

    lengths : length (page_at (with_page_at bytes p page) q) ≡ length (page_at bytes q)
    lengths =
        length-take 256 (drop (256 * q) (with_page_at bytes p page)) ∙ ap (λ n. min 256 n) dropped ∙ sym (length-take 256 (drop (256 * q) bytes))

    within : (i : ℕ) → i < length (page_at (with_page_at bytes p page) q) → i < 256
    within i l = omega (arith, length-take 256 (drop (256 * q) (with_page_at bytes p page)))

    byte : (xs : List ℕ) (i : ℕ) → i < 256 → get_or (page_at xs q) i 0 ≡ get_or xs (256 * q + i) 0
    byte xs i l = get_or-take 256 (drop (256 * q) xs) i 0 l ∙ get_or-drop (256 * q) xs i 0

    at_byte : (i : ℕ) → i < 256 → get_or (page_at (with_page_at bytes p page) q) i 0 ≡ get_or (page_at bytes q) i 0
    at_byte i l =
        byte (with_page_at bytes p page) i l
        ∙ byte_outside bytes page p whole inside (256 * q + i) (λ h. past i l h) ∙ sym (byte bytes i l)
      where
        past : (i : ℕ) → i < 256 → 256 * p ≤ 256 * q + i → 256 * p + 256 ≤ 256 * q + i
        past i l h = elim (dec_le (p + 1) q) [
          | yes m ↦ omega arith
          | no m ↦ absurd (apart (omega arith))
        ]
