use mathlib.Core.Path.{◌≡◌}
use native.Mathlib.Omega.{arith}
use Rattle.page.specs.Page.{bundles_in}
use Rattle.page.proofs.Theorems.{fitting}
use Rattle.text.proofs.Grows.{nothing_more, ◌then◌}
use Rattle.listing.specs.Listing.{bundle_lines}
use Rattle.listing.proofs.Laws.{line_more}
use Rattle.listing.proofs.put_page.Goals as goal

pub overflow_cast-bundles : goal.overflow_cast-bundles
overflow_cast-bundles c = omega (arith, fitting c.args.page.now c.requires.0)

pub loop-k-init : goal.loop-k-init
unfolding bundle_lines
loop-k-init c = nothing_more c.head_line.ensures

pub put_bundle-requires : goal.put_bundle-requires
put_bundle-requires c = (c.requires.0, c.requires.1, omega arith)

pub loop-k-preserved : goal.loop-k-preserved
loop-k-preserved c = rw (line_more c.args.page.now c.loop-k.k) (c.loop-k.invariant then c.put_bundle.ensures)

pub returns : goal.returns
returns c =
    let e : c.loop-k.k ≡ bundles_in c.args.page.now = omega arith in
    c.head_line.ensures then rw e at c.loop-k.invariant
