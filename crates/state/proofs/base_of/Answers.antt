use borrow.Author.Tests.{lt-ltb, le-ltb}
use Rattle.state.specs.Validation.{validated}
use Rattle.state.proofs.base_of.Goals as goal

pub returns-then-v-lt2147483648 : goal.returns-then-v-lt2147483648
unfolding validated
returns-then-v-lt2147483648 c = rw (lt-ltb _ _ c.if-v-lt2147483648.true)

pub returns-then-offset-external : goal.returns-then-offset-external
unfolding validated
returns-then-offset-external c = rw (le-ltb _ _ c.if-v-lt2147483648.false, lt-ltb _ _ c.if-offset-external.true)

pub returns-else-offset-external : goal.returns-else-offset-external
unfolding validated
returns-else-offset-external c = rw (le-ltb _ _ c.if-v-lt2147483648.false, le-ltb _ _ c.if-offset-external.false)
