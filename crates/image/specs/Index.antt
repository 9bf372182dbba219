-- The index, as 02 has it: the counts of an image's pages, how it is built, and a page that is replaced.
use Rattle.std.specs.Prelude.{ℕ, zero, suc, ◌+◌, Bool, true, false, not, ◌&&◌, List, [], ◌∷◌, ◌++◌, eqb, set}
use Rattle.refusal.specs.Refusals.{Decision, Rule, rule, decision, when_accepted}
use Rattle.platform.specs.Programs.{with_page}
use Rattle.count.specs.Count.{count_program}
use Rattle.image.specs.Images.{Image, pages_in, program_at, with_page_at, index_length_rule, image_rules, page_rules, whole_page_rule}

-- ---- the counts

-- the count of page p, as a byte of the index has it
abbrev pub count_at : Image → ℕ → ℕ
count_at image p = (count_program (program_at image p)).count

-- a number for each of n pages, from page p on
abbrev pub each_from : (ℕ → ℕ) → ℕ → ℕ → List ℕ
each_from f p zero = []
each_from f p (suc n) = f p ∷ each_from f (p + 1) n

-- the counts of all its pages, worked out afresh
abbrev pub counts_in : Image → List ℕ
counts_in image = each_from (count_at image) 0 (pages_in image.bytes)

-- two lists are equal
unfoldable pub equal_lists : List ℕ → List ℕ → Bool
equal_lists [] [] = true
equal_lists [] (y ∷ ys) = false
equal_lists (x ∷ xs) [] = false
equal_lists (x ∷ xs) (y ∷ ys) = eqb x y && equal_lists xs ys

-- refusal 21
abbrev pub index_rule : Image → Rule
index_rule image = rule (not (equal_lists image.index (counts_in image))) 21 []

-- ---- an index that is built: 18, 12, 14

abbrev pub build_rules : Image → List Rule
build_rules image = image_rules image ++ (index_length_rule image.bytes image.index ∷ [])

abbrev pub build_decision : Image → Decision
build_decision image = decision (build_rules image)

-- refused, it stays
abbrev pub index_built : Image → List ℕ
index_built image = when_accepted (build_decision image) (counts_in image) image.index

-- ---- a page that is replaced: 18, 12, 13, 14, 1

abbrev pub replace_rules : Image → ℕ → List ℕ → List Rule
replace_rules image p page = page_rules image p ++ (whole_page_rule page ∷ [])

abbrev pub replace_decision : Image → ℕ → List ℕ → Decision
replace_decision image p page = decision (replace_rules image p page)

-- page p is the given one, and byte p its count; all else stays
abbrev pub replaced : Image → ℕ → List ℕ → Image
replaced image p page = record {
  bytes = with_page_at image.bytes p page;
  index = set image.index p (count_program (with_page (program_at image p) page)).count;
  never_return = image.never_return;
  profile = image.profile;
}

-- refused, so does everything
abbrev pub after_replace : Image → ℕ → List ℕ → Image
after_replace image p page = when_accepted (replace_decision image p page) (replaced image p page) image
