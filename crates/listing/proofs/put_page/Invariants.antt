use Rattle.text.specs.Text.{Grows}
use Rattle.listing.specs.Listing.{bundle_lines}
use Rattle.listing.proofs.put_page.Given as goal

-- The loop has put the lines of the first k bundles.
abbrev pub invariant-loop-k : goal.invariant-loop-k
invariant-loop-k l = Grows l.initial.text (bundle_lines l.page 0 l.k) l.text
