-- A number and its groups, each law over the number of groups.
use Prim.Native.Nat.{ℕ, zero, suc, ◌+◌, ◌*◌, ◌/◌, ◌%◌, ◌^◌, ◌<◌, ◌≤◌}
use mathlib.Core.Path.{◌≡◌, sym, ap, ◌∙◌}
use mathlib.Core.List.{List, [], ◌∷◌, ◌++◌}
use native.Mathlib.Decide.{dec_lt}
use native.Mathlib.Omega.{arith}
use native.Mathlib.Nat.{pow-succ', one-le-pow}
use lib.ListN.{length, get_or, take}
use borrow.Author.Tests.{ne_eqb, lt-ltb, le-ltb}
use Rattle.leb128.specs.Leb128.{groups_of, NumberAnswer, number, cut_off, too_many_groups, not_shortest, below, number_in}

-- ---- writing

-- a last group
pub last_group : (n x : ℕ) → x < 128 → groups_of (suc n) x ≡ x ∷ []
unfolding groups_of
last_group n x l = rw (lt-ltb x 128 l)

-- a group with others above it
pub lower_group : (n x : ℕ) → 128 ≤ x → groups_of (suc n) x ≡ (x % 128 + 128) ∷ groups_of n (x / 128)
unfolding groups_of
lower_group n x l = rw (le-ltb x 128 l)

-- one group more is allowed, and not needed
pub enough : (n x : ℕ) → x < 128 ^ suc n → groups_of (suc (suc n)) x ≡ groups_of (suc n) x
enough zero x l = last_group 1 x (omega arith) ∙ sym (last_group 0 x (omega arith))
enough (suc n) x l = elim (dec_lt x 128) [
  | yes h ↦ last_group (suc (suc n)) x h ∙ sym (last_group (suc n) x h)
  | no h ↦ lower_group (suc (suc n)) x (omega arith)
      ∙ ap (λ (more : List ℕ). (x % 128 + 128) ∷ more) (enough n (x / 128) (omega (arith, pow-succ' 128 (suc n))))
      ∙ sym (lower_group (suc n) x (omega arith))
]

-- how many there are
pub length_most : (n x : ℕ) → length (groups_of n x) ≤ n
unfolding groups_of
length_most zero x = omega arith
length_most (suc n) x = elim (dec_lt x 128) [
  | yes h ↦ rw (last_group n x h) (omega arith)
  | no h ↦ rw (lower_group n x (omega arith)) (omega (arith, length_most n (x / 128)))
]

pub length_least : (n x : ℕ) → 1 ≤ length (groups_of (suc n) x)
length_least n x = elim (dec_lt x 128) [
  | yes h ↦ rw (last_group n x h) (omega arith)
  | no h ↦ rw (lower_group n x (omega arith)) (omega arith)
]

pub length_below : (n k x : ℕ) → x < 128 ^ suc k → length (groups_of n x) ≤ suc k
unfolding groups_of
length_below zero k x l = omega arith
length_below (suc n) zero x l = rw (last_group n x (omega arith)) (omega arith)
length_below (suc n) (suc k) x l = elim (dec_lt x 128) [
  | yes h ↦ rw (last_group n x h) (omega arith)
  | no h ↦ rw (lower_group n x (omega arith)) (omega (arith, length_below n k (x / 128) (omega (arith, pow-succ' 128 (suc k)))))
]

-- ---- what is written is read back, with the same length

pub above : (group x l : ℕ) → 0 < x → below (number x l) group ≡ number (group + 128 * x) (l + 1)
above group x l p = rw (ne_eqb x 0 (λ e. absurd (omega arith)))

pub written_reads : (n x : ℕ) (rest : List ℕ) → x < 128 ^ suc n → number_in (suc n) (groups_of (suc n) x ++ rest) ≡ number x (length (groups_of (suc n) x))
unfolding number_in
written_reads zero x rest l = rw (last_group 0 x (omega arith), lt-ltb x 128 (omega arith))
written_reads (suc n) x rest l = elim (dec_lt x 128) [
  | yes h ↦ rw (last_group (suc n) x h, lt-ltb x 128 h)
  | no h ↦ let y = x / 128 in
      let count = length (groups_of (suc n) y) in
      let low : (x % 128 + 128) % 128 + 128 * y ≡ x = omega arith in
      let more : count + 1 ≡ suc count = omega arith in
      rw (lower_group (suc n) x (omega arith), le-ltb (x % 128 + 128) 128 (omega arith), written_reads n y rest (omega (arith, pow-succ' 128 (suc n))), above ((x % 128 + 128) % 128) y count (omega arith), low, more)
]

-- ---- what is read is what would be written

-- a number that was read from some bytes: its groups are the first of them
abbrev pub Reads : ℕ → List ℕ → NumberAnswer → Type 0
Reads n bytes (number x l) = (groups_of n x ≡ take l bytes) × (x < 128 ^ n) × (l ≤ n) × (l ≤ length bytes)
Reads n bytes cut_off = Unit {0}
Reads n bytes too_many_groups = Unit {0}
Reads n bytes not_shortest = Unit {0}

reads_below : (n b : ℕ) (bytes : List ℕ) (a : NumberAnswer) → 128 ≤ b → b < 256 → Reads n bytes a → Reads (suc n) (b ∷ bytes) (below a (b % 128))
reads_below n b bytes (number zero l) p q r = tt
reads_below n b bytes (number (suc y) l) p q r =
    let x = b % 128 + 128 * suc y in
    let group : x % 128 + 128 ≡ b = omega arith in
    let rest : x / 128 ≡ suc y = omega arith in
    let more : l + 1 ≡ suc l = omega arith in
    rw (above (b % 128) (suc y) l (omega arith), more) (
      rw (lower_group n x (omega arith), group, rest) (ap (λ (gs : List ℕ). b ∷ gs) r.0),
      omega (arith, r.1, pow-succ' 128 n),
      omega (arith, r.2),
      omega (arith, r.3),
    )
reads_below n b bytes cut_off p q r = tt
reads_below n b bytes too_many_groups p q r = tt
reads_below n b bytes not_shortest p q r = tt

pub reads : (n : ℕ) (bytes : List ℕ) → ((k : ℕ) → get_or bytes k 0 < 256) → Reads n bytes (number_in n bytes)
unfolding number_in
reads zero bytes h = tt
reads (suc n) [] h = tt
reads (suc n) (b ∷ bytes) h = elim (dec_lt b 128) [
  | yes l ↦ rw (lt-ltb b 128 l) (last_group n b l, omega (arith, pow-succ' 128 n, one-le-pow n 128 (omega arith)), omega arith, omega arith)
  | no l ↦ rw (le-ltb b 128 (omega arith)) (reads_below n b bytes (number_in n bytes) (omega arith) (h 0) (reads n bytes (λ k. h (suc k))))
]
