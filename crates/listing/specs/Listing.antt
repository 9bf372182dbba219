-- The lister's whole output for a page.
use Rattle.std.specs.Prelude.{ℕ, zero, suc, List, [], ◌++◌, ltb}
use Rattle.refusal.specs.Refusals.{Decision, accepted, refused}
use Rattle.page.specs.Page.{bundles_in, first_of, second_of}
use Rattle.platform.specs.Programs.{default_program}
use Rattle.prefix.specs.LargestSuccessor.{largest_successor}
use Rattle.bundle.specs.Successors.{successors_of}
use Rattle.count.specs.Count.{count_of, count_program}
use Rattle.refusal_line.specs.RefusalLine.{refused_text}
use Rattle.lister_lines.specs.Lines.{head_text, bundle_text}

-- the line of bundle k: below the count it is ok, else out
abbrev pub line_of : List ℕ → ℕ → List ℕ
line_of page k = bundle_text k (first_of page k) (second_of page k) (ltb k (count_of (default_program page))) (largest_successor (successors_of (default_program page) k))

-- the lines of n bundles from k on
unfoldable pub bundle_lines : List ℕ → ℕ → ℕ → List ℕ
bundle_lines page k zero = []
bundle_lines page k (suc n) = line_of page k ++ bundle_lines page (suc k) n

-- a page that is refused has one line
abbrev pub listing_by : List ℕ → Decision → List ℕ
listing_by page accepted = head_text (bundles_in page) (count_of (default_program page)) ++ bundle_lines page 0 (bundles_in page)
listing_by page (refused n values) = refused_text n values

abbrev pub listing_of : List ℕ → List ℕ
listing_of page = listing_by page (count_program (default_program page)).decision
