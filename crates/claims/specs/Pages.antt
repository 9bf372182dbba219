-- Pages written as the build paper prints them, halfwords, lowest byte first; and their counts.
use Rattle.std.specs.Prelude.{ℕ, ◌/◌, ◌%◌, List, [], ◌∷◌}
use Rattle.platform.specs.Programs.{program_of}
use Rattle.platform.specs.declared.Platform.{Platform}
use Rattle.count.specs.Count.{count_program}

abbrev pub page_of : List ℕ → List ℕ
page_of [] = []
page_of (h ∷ hs) = h % 256 ∷ h / 256 ∷ page_of hs

-- the count that the code answers for a page of these halfwords
abbrev pub count_on : Platform → List ℕ → ℕ
count_on platform halfwords = (count_program (program_of (page_of halfwords) platform)).count
