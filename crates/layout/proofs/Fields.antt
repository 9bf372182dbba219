-- Laws of fields, values and bytes, each over any list of fields.
use Prim.Native.Nat.{ℕ, zero, suc, ◌+◌, ◌^◌, ◌<◌, ◌≤◌}
use mathlib.Core.Path.{◌≡◌, refl, ap, ◌∙◌}
use mathlib.Core.Bool.{Bool, true, false}
use mathlib.Core.List.{List, [], ◌∷◌, ◌++◌, append_assoc, append-nil}
use native.Mathlib.Nat.{le_of_suc-le-suc}
use native.Mathlib.Omega.{arith}
use lib.ListN.{length, get_or, take, drop, length-append, length-drop, take-append-drop}
use lib.Seq.{take_all, drop-cons, drop_at, get_or-drop}
use Rattle.endian.specs.LittleEndian.{load_le, bytes_of}
use Rattle.endian.proofs.Theorems.{load_below, load_drop, length_bytes, load_bytes, bytes_load}
use Rattle.layout.specs.StoredForm.{Field, length_of, encode, decode, bit_of, width_at}

-- 0 or 1
pub bit_small : (t : Bool) → bit_of t ≤ 1
bit_small true = omega arith
bit_small false = omega arith

-- ---- n elements from i on, one by one

abbrev pub elements : ℕ → ℕ → List ℕ → List ℕ
elements zero i xs = []
elements (suc n) i xs = get_or xs i 0 ∷ elements n (suc i) xs

pub elements_are : (n i : ℕ) (xs : List ℕ) → i + n ≤ length xs → elements n i xs ≡ take n (drop i xs)
elements_are zero i xs h = refl
elements_are (suc n) i xs h = rw (drop-cons xs i 0 (omega arith), elements_are n (suc i) xs (omega arith))

pub whole : (n : ℕ) (xs : List ℕ) → length xs ≡ n → elements n 0 xs ≡ xs
whole n xs l = elements_are n 0 xs (omega arith) ∙ take_all n xs (omega arith)

-- ---- values are read back

-- a value for each field, below 256 ^ width
abbrev pub ValuesFit : List Field → List ℕ → Type 0
ValuesFit [] [] = Unit {0}
ValuesFit [] (x ∷ values) = ⊥
ValuesFit (f ∷ fields) [] = ⊥
ValuesFit (f ∷ fields) (x ∷ values) = (x < 256 ^ f.width) × ValuesFit fields values

-- field by field
pub values_fit : (fields : List Field) (values : List ℕ) → length values ≡ length fields → ((i : ℕ) → i < length fields → get_or values i 0 < 256 ^ width_at fields i)
    → ValuesFit fields values
values_fit [] [] l h = tt
values_fit [] (x ∷ values) l h = absurd (omega arith)
values_fit (f ∷ fields) [] l h = absurd (omega arith)
values_fit (f ∷ fields) (x ∷ values) l h = (h 0 (omega arith), values_fit fields values (omega arith) (λ i m. h (suc i) (omega arith)))

pub fits_at : (fields : List Field) (values : List ℕ) → ValuesFit fields values → (i : ℕ) → i < length fields → get_or values i 0 < 256 ^ width_at fields i
fits_at [] values fit i l = absurd (omega arith)
fits_at (f ∷ fields) [] fit i l = absurd fit
fits_at (f ∷ fields) (x ∷ values) fit zero l = fit.0
fits_at (f ∷ fields) (x ∷ values) fit (suc i) l = fits_at fields values fit.1 i (le_of_suc-le-suc l)

pub fits_length : (fields : List Field) (values : List ℕ) → ValuesFit fields values → length values ≡ length fields
fits_length [] [] fit = refl
fits_length [] (x ∷ values) fit = absurd fit
fits_length (f ∷ fields) [] fit = absurd fit
fits_length (f ∷ fields) (x ∷ values) fit = ap suc (fits_length fields values fit.1)

pub decode_encode : (fields : List Field) (values : List ℕ) → ValuesFit fields values → decode fields (encode fields values) ≡ values
decode_encode [] [] fit = refl
decode_encode [] (x ∷ values) fit = absurd fit
decode_encode (f ∷ fields) [] fit = absurd fit
decode_encode (f ∷ fields) (x ∷ values) fit =
    let rest = encode fields values in
    rw (load_bytes f.width x rest fit.0, drop_at (bytes_of f.width x) rest f.width (length_bytes f.width x))
    (ap (λ (more : List ℕ). x ∷ more) (decode_encode fields values fit.1))

pub encode_decode : (fields : List Field) (bytes : List ℕ) → length bytes ≡ length_of fields → ((k : ℕ) → get_or bytes k 0 < 256)
    → encode fields (decode fields bytes) ≡ bytes
encode_decode [] [] l h = refl
encode_decode [] (b ∷ bytes) l h = absurd (omega arith)
encode_decode (f ∷ fields) bytes l h =
    rw (bytes_load f.width bytes (omega arith) h, encode_decode fields (drop f.width bytes) (omega (arith, length-drop f.width bytes)) (λ k. rw get_or-drop (h (f.width + k))))
    (take-append-drop f.width bytes)

pub length_encode : (fields : List Field) (values : List ℕ) → ValuesFit fields values → length (encode fields values) ≡ length_of fields
length_encode [] [] fit = refl
length_encode [] (x ∷ values) fit = absurd fit
length_encode (f ∷ fields) [] fit = absurd fit
length_encode (f ∷ fields) (x ∷ values) fit = rw (length-append, length_bytes, length_encode fields values fit.1)

-- a value that is read goes into its field
pub decode_below : (fields : List Field) (i : ℕ) (bytes : List ℕ) → i < length fields → ((k : ℕ) → get_or bytes k 0 < 256)
    → get_or (decode fields bytes) i 0 < 256 ^ width_at fields i
decode_below [] i bytes l h = absurd (omega arith)
decode_below (f ∷ fields) zero bytes l h = load_below f.width bytes 0 h
decode_below (f ∷ fields) (suc i) bytes l h =
    decode_below fields i (drop f.width bytes) (le_of_suc-le-suc l) (λ k. rw get_or-drop (h (f.width + k)))

-- ---- one field more

pub decode_more : (fields : List Field) (i : ℕ) (bytes : List ℕ) → i < length fields
    → decode (take (suc i) fields) bytes ≡ decode (take i fields) bytes ++ (load_le (width_at fields i) bytes (length_of (take i fields)) ∷ [])
decode_more [] i bytes l = absurd (omega arith)
decode_more (f ∷ fields) zero bytes l = refl
decode_more (f ∷ fields) (suc i) bytes l =
    rw (decode_more fields i (drop f.width bytes) (le_of_suc-le-suc l), load_drop (width_at fields i) f.width bytes (length_of (take i fields)))

pub encode_more : (fields : List Field) (i : ℕ) (values : List ℕ) → i < length fields → i < length values
    → encode (take (suc i) fields) values ≡ encode (take i fields) values ++ bytes_of (width_at fields i) (get_or values i 0)
encode_more [] i values l m = absurd (omega arith)
encode_more (f ∷ fields) i [] l m = absurd (omega arith)
encode_more (f ∷ fields) zero (x ∷ values) l m = append-nil (bytes_of f.width x)
encode_more (f ∷ fields) (suc i) (x ∷ values) l m =
    rw (encode_more fields i values (le_of_suc-le-suc l) (le_of_suc-le-suc m), append_assoc)

pub length_more : (fields : List Field) (i : ℕ) → i < length fields → length_of (take (suc i) fields) ≡ length_of (take i fields) + width_at fields i
length_more [] i l = absurd (omega arith)
length_more (f ∷ fields) zero l = omega arith
length_more (f ∷ fields) (suc i) l = omega (arith, length_more fields i (le_of_suc-le-suc l))

pub length_at_most : (fields : List Field) (i : ℕ) → length_of (take i fields) ≤ length_of fields
length_at_most fields zero = omega arith
length_at_most [] (suc i) = omega arith
length_at_most (f ∷ fields) (suc i) = omega (arith, length_at_most fields i)
