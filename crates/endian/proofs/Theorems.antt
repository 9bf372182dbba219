-- Laws of little-endian access, each over the size.
use Prim.Native.Nat.{ℕ, zero, suc, ◌+◌, ◌-◌, ◌*◌, ◌%◌, ◌/◌, ◌^◌, ◌<◌, ◌≤◌}
use mathlib.Core.Path.{◌≡◌, refl, ap, ◌∙◌}
use mathlib.Core.List.{List, [], ◌∷◌, ◌++◌, append_assoc, append-nil}
use native.Mathlib.Omega.{arith}
use native.Mathlib.Nat.{add-zero, le_of_suc-le-suc, pow-succ', pow-le-pow_right}
use native.Mathlib.Numerals.{add-one}
use lib.ListN.{length, get_or, take, drop, set, length-set}
use lib.Seq.{take-suc-set, get_or-drop, get_or-set_same, get_or-set_other}
use Rattle.endian.specs.LittleEndian.{width_of, load_le, store_le, bytes_of}
use Rattle.endian.specs.declared.Size.{Size}
use Rattle.endian.specs.declared.Size.TheVariants.{Byte, Halfword, Word}

-- a number of size bytes is below 256 ^ size
pub load_below : (size : ℕ) (bytes : List ℕ) (at : ℕ) → ((k : ℕ) → get_or bytes k 0 < 256) → load_le size bytes at < 256 ^ size
load_below zero bytes at h = omega arith
load_below (suc size) bytes at h = omega (arith, h at, load_below size bytes (at + 1) h, pow-succ' 256 size)

pub length_store : (size : ℕ) (bytes : List ℕ) (at x : ℕ) → length (store_le size bytes at x) ≡ length bytes
length_store zero bytes at x = refl
length_store (suc size) bytes at x = rw (length_store size, length-set)

-- ---- one byte more

-- from the highest down
pub load_step : (size i at : ℕ) (bytes : List ℕ) → 0 < i → i ≤ size
    → load_le (size - i) bytes (at + i) * 256 + get_or bytes (at + (i - 1)) 0 ≡ load_le (size - (i - 1)) bytes (at + (i - 1))
load_step size i at bytes p l =
    let e : size - (i - 1) ≡ suc (size - i) = omega arith in
    let f : at + (i - 1) + 1 ≡ at + i = omega arith in
    rw (e, f) (omega arith)

-- from the lowest up
pub store_step : (size i at rest : ℕ) (bytes : List ℕ) → i < size
    → store_le (size - (i + 1)) (set bytes (at + i) (rest % 256)) (at + (i + 1)) (rest / 256) ≡ store_le (size - i) bytes (at + i) rest
store_step size i at rest bytes l =
    let e : size - i ≡ suc (size - (i + 1)) = omega arith in
    let f : at + i + 1 ≡ at + (i + 1) = omega arith in
    rw (e, ← f)

-- ---- sizes

pub width_le : (size : Size) → width_of size ≤ 4
width_le Byte = omega arith
width_le Halfword = omega arith
width_le Word = omega arith

-- up to three bytes leave room for one more in 32 bits
pub load_short : (size : ℕ) (bytes : List ℕ) (at : ℕ) → ((k : ℕ) → get_or bytes k 0 < 256) → size < 4 → load_le size bytes at < 2 ^ 24
load_short size bytes at h l =
    omega (arith, load_below size bytes at h, pow-le-pow_right {n = 256} (omega arith) {i = size} {j = 3} (omega arith))

-- ---- the number of some bytes, and the bytes of a number

pub load_drop : (size at : ℕ) (bytes : List ℕ) (i : ℕ) → load_le size (drop at bytes) i ≡ load_le size bytes (at + i)
load_drop zero at bytes i = refl
load_drop (suc size) at bytes i =
    let e : at + (i + 1) ≡ at + i + 1 = omega arith in
    rw (get_or-drop, load_drop size at bytes (i + 1), e)

pub length_bytes : (size x : ℕ) → length (bytes_of size x) ≡ size
length_bytes zero x = refl
length_bytes (suc size) x = ap suc (length_bytes size (x / 256))

-- the number of a number's bytes
pub load_bytes : (size x : ℕ) (rest : List ℕ) → x < 256 ^ size → load_le size (bytes_of size x ++ rest) 0 ≡ x
load_bytes zero x rest h = omega arith
load_bytes (suc size) x rest h =
    rw (← load_drop size 1 (x % 256 ∷ (bytes_of size (x / 256) ++ rest)) 0, load_bytes size (x / 256) rest (omega (arith, pow-succ' 256 size)))
    (omega arith)

-- the bytes of some bytes' number
pub bytes_load : (size : ℕ) (bytes : List ℕ) → size ≤ length bytes → ((k : ℕ) → get_or bytes k 0 < 256) → bytes_of size (load_le size bytes 0) ≡ take size bytes
bytes_load zero bytes l h = refl
bytes_load (suc size) [] l h = absurd (omega arith)
bytes_load (suc size) (b ∷ bytes) l h =
    let y = load_le size (b ∷ bytes) 1 in
    let e : (b + 256 * y) % 256 ≡ b = omega (arith, h 0) in
    let f : (b + 256 * y) / 256 ≡ y = omega (arith, h 0) in
    rw (e, f, ← load_drop size 1 (b ∷ bytes) 0)
    (ap (λ (rest : List ℕ). b ∷ rest) (bytes_load size bytes (le_of_suc-le-suc l) (λ k. h (suc k))))

-- after a store, the bytes up to its end
pub store_take : (size : ℕ) (bytes : List ℕ) (at x : ℕ) → at + size ≤ length bytes
    → take (at + size) (store_le size bytes at x) ≡ take at bytes ++ bytes_of size x
store_take zero bytes at x l = rw (add-zero, append-nil)
store_take (suc size) bytes at x l =
    let b = x % 256 in
    let e : at + suc size ≡ at + 1 + size = omega arith in
    let f : take (at + 1) (set bytes at b) ≡ take at bytes ++ (b ∷ []) = rw add-one (take-suc-set bytes at b (omega arith)) in
    rw (e, store_take size (set bytes at b) (at + 1) (x / 256) (omega (arith, length-set bytes at b)), f, append_assoc)

-- ---- bytes in two lists, and beside a store

-- a load reads its own bytes alone
pub load_agrees : (size : ℕ) (a b : List ℕ) (at : ℕ) → ((k : ℕ) → at ≤ k → k < at + size → get_or a k 0 ≡ get_or b k 0)
    → load_le size a at ≡ load_le size b at
load_agrees zero a b at h = refl
load_agrees (suc size) a b at h =
    rw (h at (omega arith) (omega arith), load_agrees size a b (at + 1) (λ k l u. h k (omega arith) (omega arith)))

-- a store writes its own bytes alone
pub store_elsewhere : (size : ℕ) (bytes : List ℕ) (at x k : ℕ) → (at ≤ k → k < at + size → ⊥)
    → get_or (store_le size bytes at x) k 0 ≡ get_or bytes k 0
store_elsewhere zero bytes at x k h = refl
store_elsewhere (suc size) bytes at x k h =
    store_elsewhere size (set bytes at (x % 256)) (at + 1) (x / 256) k (λ l u. h (omega arith) (omega arith))
    ∙ get_or-set_other bytes at k (x % 256) 0 (λ e. h (omega (arith, e)) (omega (arith, e)))

-- what was stored is loaded
pub load_stored : (size : ℕ) (bytes : List ℕ) (at x : ℕ) → at + size ≤ length bytes → x < 256 ^ size → load_le size (store_le size bytes at x) at ≡ x
load_stored zero bytes at x l h = omega arith
load_stored (suc size) bytes at x l h =
    let b = x % 256 in
    let first : get_or (store_le size (set bytes at b) (at + 1) (x / 256)) at 0 ≡ b =
    store_elsewhere size (set bytes at b) (at + 1) (x / 256) at (λ m u. omega arith) ∙ get_or-set_same bytes at b 0 (omega arith) in
    let rest = load_stored size (set bytes at b) (at + 1) (x / 256) (omega (arith, length-set bytes at b)) (omega (arith, pow-succ' 256 size)) in
    rw (first, rest) (omega arith)

set_agrees : (a b : List ℕ) (i x k : ℕ) → length a ≡ length b → get_or a k 0 ≡ get_or b k 0 → get_or (set a i x) k 0 ≡ get_or (set b i x) k 0
set_agrees [] [] i x k l e = refl
set_agrees [] (z ∷ b) i x k l e = absurd (omega (arith, l))
set_agrees (y ∷ a) [] i x k l e = absurd (omega (arith, l))
set_agrees (y ∷ a) (z ∷ b) zero x zero l e = refl
set_agrees (y ∷ a) (z ∷ b) zero x (suc k) l e = e
set_agrees (y ∷ a) (z ∷ b) (suc i) x zero l e = e
set_agrees (y ∷ a) (z ∷ b) (suc i) x (suc k) l e = set_agrees a b i x k (omega (arith, l)) e

-- one store in two lists of one length keeps a byte equal
pub store_agrees : (size : ℕ) (a b : List ℕ) (at x k : ℕ) → length a ≡ length b → get_or a k 0 ≡ get_or b k 0
    → get_or (store_le size a at x) k 0 ≡ get_or (store_le size b at x) k 0
store_agrees zero a b at x k l e = e
store_agrees (suc size) a b at x k l e =
    store_agrees size (set a at (x % 256)) (set b at (x % 256)) (at + 1) (x / 256) k (rw (length-set a, length-set b) l)
    (set_agrees a b at (x % 256) k l e)
