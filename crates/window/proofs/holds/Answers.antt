use native.Mathlib.Omega.{arith}
use borrow.Author.Tests.{le-leb, lt-leb}
use Rattle.window.specs.Windows.{inside_window}
use Rattle.window.proofs.Laws.{too_many, past_last, up_to_last}
use Rattle.window.proofs.holds.Goals as goal

-- the offset and the bytes fit
pub returns-then-at-end : goal.returns-then-at-end
unfolding inside_window
returns-then-at-end c =
    let s = c.args in
    rw (le-leb s.w.start s.at (omega (arith, c.if-at-start.false)), up_to_last s.w.end s.at s.bytes c.if-end-bytes.false c.if-at-end.true)

pub returns-then-at-start : goal.returns-then-at-start
unfolding inside_window
returns-then-at-start c = rw (lt-leb _ _ c.if-at-start.true)

pub returns-then-end-bytes : goal.returns-then-end-bytes
unfolding inside_window
returns-then-end-bytes c = rw (le-leb _ _ c.if-at-start.false, too_many _ _ _ c.if-end-bytes.true)

pub returns : goal.returns
unfolding inside_window
returns c = rw (le-leb _ _ c.if-at-start.false, past_last _ _ _ c.if-at-end.false)
