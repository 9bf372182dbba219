-- The reader's answer: bad, none or the largest successor; and ascending lists of successors.
use Rattle.std.specs.Prelude.{ℕ, ◌<◌, max, cond, List, [], ◌∷◌, ltb, eqb}
use Rattle.prefix.specs.Prefix.{Successors, bad, goes}
use Rattle.prefix.specs.declared.LargestSuccessor.{LargestSuccessor}
use Rattle.prefix.specs.declared.LargestSuccessor.TheVariants.{Bad, Nothing, Largest}

-- what the build paper's reader answers
pub data Reading : Type 0 where
  bad_bundle : Reading
  no_successor : Reading
  largest : ℕ → Reading

-- of s and further ones
abbrev pub largest_of : ℕ → List ℕ → ℕ
largest_of s [] = s
largest_of s (t ∷ ts) = largest_of (max s t) ts

abbrev pub largest_successor : Successors → Reading
largest_successor bad = bad_bundle
largest_successor (goes []) = no_successor
largest_successor (goes (s ∷ ss)) = largest (largest_of s ss)

-- the code's cases
abbrev pub reading_of : LargestSuccessor → Reading
reading_of Bad = bad_bundle
reading_of Nothing = no_successor
reading_of (Largest s) = largest s

-- ---- ascending, without repeats

abbrev pub Above : ℕ → List ℕ → Type 0
Above s [] = Unit {0}
Above s (t ∷ ts) = s < t

abbrev pub Ascending : List ℕ → Type 0
Ascending [] = Unit {0}
Ascending (s ∷ ss) = Above s ss × Ascending ss

-- a successor put into an ascending list, unless it is there
abbrev pub insert : ℕ → List ℕ → List ℕ
insert s [] = s ∷ []
insert s (t ∷ ts) = cond (ltb s t) (s ∷ t ∷ ts) (cond (eqb s t) (t ∷ ts) (t ∷ insert s ts))

-- one successor more; what is bad stays bad
abbrev pub with_successor : Successors → ℕ → Successors
with_successor bad s = bad
with_successor (goes ss) s = goes (insert s ss)
