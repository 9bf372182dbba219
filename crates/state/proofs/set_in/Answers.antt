use borrow.Author.Tests.{lt-ltb, le-ltb}
use Rattle.state.proofs.set_in.Goals as goal

pub returns-then-i-lt8 : goal.returns-then-i-lt8
returns-then-i-lt8 c = rw (lt-ltb _ _ c.if-i-lt8.true)

pub returns-else-i-lt8 : goal.returns-else-i-lt8
returns-else-i-lt8 c = rw (le-ltb _ _ c.if-i-lt8.false)
