use Rattle.prefix.specs.Prefix.{goes}
use Rattle.prefix.specs.LargestSuccessor.{insert}
use Rattle.bundle.proofs.after_second.Goals as goal

pub returns-in-To : goal.returns-in-To
returns-in-To c = λ bs e. rw c.in-To.is (c.with_successor.ensures (goes bs) e)

pub returns-in-Next : goal.returns-in-Next
returns-in-Next c = λ bs e. rw c.in-Next.is (c.with_successor-in-Next.ensures (goes bs) e)

pub returns-in-NextOr : goal.returns-in-NextOr
returns-in-NextOr c = λ bs e.
    rw c.in-NextOr.is
    (c.with_successor-in-NextOr-2.ensures (goes (insert c.args.next bs)) (c.with_successor-in-NextOr.ensures (goes bs) e))
