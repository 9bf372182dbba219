use lib.ListN.{length}
use borrow.Author.Tests.{lt-leb, le-leb}
use Rattle.state.specs.Validation.{external_fits}
use Rattle.state.proofs.external_fits.Goals as goal

pub returns-then-external-gt16777216 : goal.returns-then-external-gt16777216
unfolding external_fits
returns-then-external-gt16777216 c = rw (lt-leb (length c.args.external.now) 16777216 c.if-external-gt16777216.true)

pub returns : goal.returns
unfolding external_fits
returns c = rw (le-leb (length c.args.external.now) 16777216 c.if-external-gt16777216.false)
