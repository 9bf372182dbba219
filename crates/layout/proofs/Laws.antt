-- One field more is written or read.
use Prim.Native.Nat.{ℕ, ◌+◌, ◌<◌, ◌≤◌}
use mathlib.Core.Path.{◌≡◌, sym, ap, ◌∙◌}
use mathlib.Core.List.{List}
use native.Mathlib.Numerals.{add-one}
use native.Mathlib.Omega.{arith}
use lib.ListN.{length, get_or, take, set}
use lib.Seq.{take_all, take-suc-set}
use Rattle.endian.specs.LittleEndian.{load_le, store_le}
use Rattle.endian.proofs.Theorems.{store_take}
use Rattle.layout.specs.StoredForm.{Field, length_of, encode, decode, width_at}
use Rattle.layout.proofs.Fields.{decode_more, encode_more, length_more, length_at_most}

module _ (fields : List Field) (i at width : ℕ) (n : i < length fields) (a : at ≡ length_of (take i fields)) (w : width ≡ width_at fields i) where
  pub next : at + width ≡ length_of (take (i + 1) fields)
  next = rw (add-one, a, w) (sym (length_more fields i n))

  pub within_lem : at + width ≤ length_of fields
  within_lem = omega (arith, next, length_at_most fields (i + 1))

  pub written_lem : (values room : List ℕ) → i < length values → length room ≡ length_of fields → take at room ≡ encode (take i fields) values
      → take (at + width) (store_le width room at (get_or values i 0)) ≡ encode (take (i + 1) fields) values
  written_lem values room m l h =
      store_take width room at (get_or values i 0) (omega (arith, within_lem)) ∙ rw (h, w, add-one) (sym (encode_more fields i values n m))

  pub read_one : (values bytes : List ℕ) → i < length values → take i values ≡ decode (take i fields) bytes
      → take (i + 1) (set values i (load_le width bytes at)) ≡ decode (take (i + 1) fields) bytes
  read_one values bytes m h =
      rw add-one (take-suc-set values i (load_le width bytes at) m ∙ rw (h, a, w) (sym (decode_more fields i bytes n)))

-- ---- the last field

pub all_written : (fields : List Field) (values room : List ℕ) (i at : ℕ) → length fields ≤ i → at ≡ length_of (take i fields)
    → length room ≡ length_of fields → take at room ≡ encode (take i fields) values → room ≡ encode fields values
all_written fields values room i at n a l h =
    let e = take_all i fields n in
    let f : at ≡ length room = a ∙ ap length_of e ∙ sym l in
    sym (take_all at room (omega arith)) ∙ h ∙ rw e

pub all_read : (fields : List Field) (values bytes : List ℕ) (i : ℕ) → length fields ≤ i → length values ≤ i
    → take i values ≡ decode (take i fields) bytes → values ≡ decode fields bytes
all_read fields values bytes i n l h = sym (take_all i values l) ∙ h ∙ rw (take_all i fields n)
