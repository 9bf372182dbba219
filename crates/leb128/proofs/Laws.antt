-- A byte more is written or read.
use Prim.Native.Nat.{ℕ, zero, suc, ◌+◌, ◌-◌, ◌/◌, ◌%◌, ◌^◌, ◌<◌, ◌≤◌}
use mathlib.Core.Path.{◌≡◌, refl, sym, ap, ◌∙◌}
use mathlib.Core.List.{List, [], ◌∷◌}
use native.Mathlib.Omega.{arith}
use native.Mathlib.Nat.{pow-le-pow_right}
use lib.ListN.{length, get_or}
use borrow.Author.Tests.{eq-eqb, lt-ltb, le-ltb}
use Rattle.std.specs.Prelude.{Err}
use Rattle.leb128.specs.declared.NoNumber.{NoNumber}
use Rattle.leb128.specs.declared.NoNumber.TheVariants.{CutOff, TooManyGroups, NotShortest}
use Rattle.leb128.specs.Leb128.{leb128, NumberAnswer, number, cut_off, too_many_groups, not_shortest, below, number_in, seen_found}
use Rattle.leb128.proofs.Theorems.{last_group, lower_group, enough, reads}

-- ---- writing a number of 32 bits

pub leb128_last : (x : ℕ) → x < 128 → leb128 x ≡ x ∷ []
unfolding leb128
leb128_last x l = last_group 4 x l

pub leb128_lower : (x : ℕ) → 128 ≤ x → x < 2 ^ 32 → leb128 x ≡ (x % 128 + 128) ∷ leb128 (x / 128)
unfolding leb128
leb128_lower x l h =
    lower_group 4 x l ∙ ap (λ (more : List ℕ). (x % 128 + 128) ∷ more) (sym (enough 3 (x / 128) (omega arith)))

-- ---- reading

pub none_allowed : (n : ℕ) (bytes : List ℕ) → n ≡ 0 → too_many_groups ≡ number_in n bytes
unfolding number_in
none_allowed n bytes z = rw z

pub none_left : (n : ℕ) (bytes : List ℕ) → 0 < n → length bytes ≡ 0 → cut_off ≡ number_in n bytes
unfolding number_in
none_left zero bytes p z = absurd (omega arith)
none_left (suc n) [] p z = refl
none_left (suc n) (b ∷ bytes) p z = absurd (omega arith)

-- where the other bytes hold 0, the group below it would have been the last
pub shorter : (x n group : ℕ) → x ≡ 0 → not_shortest ≡ below (number x n) group
shorter x n group z = rw (eq-eqb x 0 z)

-- where they hold no number, nor does one byte more
pub none_below : (e : NoNumber) (group : ℕ) → seen_found (Err e) ≡ below (seen_found (Err e)) group
none_below CutOff group = refl
none_below TooManyGroups group = refl
none_below NotShortest group = refl

-- a byte and those behind it
module _ (n : ℕ) {b : ℕ} {bytes others : List ℕ} (e : bytes ≡ b ∷ others) where
  pub last_read : 0 < n → b < 128 → number b 1 ≡ number_in n bytes
  unfolding number_in
  last_read p l = let more : n ≡ suc (n - 1) = omega arith in rw (e, more, lt-ltb b 128 l)

  -- a group below those that the other bytes hold
  pub lower_read : (a : NumberAnswer) → 0 < n → 128 ≤ b → a ≡ number_in (n - 1) others → below a (b % 128) ≡ number_in n bytes
  unfolding number_in
  lower_read a p l told = let more : n ≡ suc (n - 1) = omega arith in rw (e, more, le-ltb b 128 l, told)

  -- up to four groups leave room for one more in 35 bits
  pub small : (x l : ℕ) → n ≤ 4 → ((k : ℕ) → get_or bytes k 0 < 256) → number x l ≡ number_in n others → (x < 2 ^ 28) × (l ≤ 4)
  small x l h known told =
      let r = rw (← told) at (reads n others (λ k. rw e at (known (suc k)))) in
      (omega (arith, r.1, pow-le-pow_right {n = 128} (omega arith) {i = n} {j = 4} (omega arith)), omega (arith, r.2))
