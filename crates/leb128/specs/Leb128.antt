-- Numbers in groups of seven bits, lowest group first, top bit set while more follow, always the shortest: unsigned LEB128.
use Rattle.std.specs.Prelude.{ℕ, zero, suc, ◌+◌, ◌*◌, ◌/◌, ◌%◌, cond, List, [], ◌∷◌, eqb, ltb, Result, Ok, Err}
use Rattle.leb128.specs.declared.NoNumber.{NoNumber}
use Rattle.leb128.specs.declared.NoNumber.TheVariants.{CutOff, TooManyGroups, NotShortest}

-- a number has at most five groups, so up to 35 bits
abbrev pub most_groups : ℕ
most_groups = 5

-- ---- writing

-- the groups of a number that has at most n of them
unfoldable pub groups_of : ℕ → ℕ → List ℕ
groups_of zero x = []
groups_of (suc n) x = cond (ltb x 128) (x ∷ []) ((x % 128 + 128) ∷ groups_of n (x / 128))

unfoldable pub leb128 : ℕ → List ℕ
leb128 x = groups_of most_groups x

-- ---- reading

-- what stands at the start of some bytes: a number, with how many of them it takes, or why there is none
pub data NumberAnswer : Type 0 where
  number : ℕ → ℕ → NumberAnswer
  cut_off : NumberAnswer
  too_many_groups : NumberAnswer
  not_shortest : NumberAnswer

-- a group below the others of its number; where those are 0, the number is shorter without them
abbrev pub below : NumberAnswer → ℕ → NumberAnswer
below (number x n) group = cond (eqb x 0) not_shortest (number (group + 128 * x) (n + 1))
below cut_off group = cut_off
below too_many_groups group = too_many_groups
below not_shortest group = not_shortest

-- a number of at most n groups
unfoldable pub number_in : ℕ → List ℕ → NumberAnswer
number_in zero bytes = too_many_groups
number_in (suc n) [] = cut_off
number_in (suc n) (b ∷ bytes) = cond (ltb b 128) (number b 1) (below (number_in n bytes) (b % 128))

unfoldable pub read_number : List ℕ → NumberAnswer
read_number bytes = number_in most_groups bytes

-- ---- the code's cases

abbrev pub seen_found : Result (ℕ × ℕ) NoNumber → NumberAnswer
seen_found (Ok (x, n)) = number x n
seen_found (Err CutOff) = cut_off
seen_found (Err TooManyGroups) = too_many_groups
seen_found (Err NotShortest) = not_shortest
