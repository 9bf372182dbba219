use Rattle.isa.proofs.Fields.{opening}
use borrow.Author.Rules.{rules}
use Rattle.isa.proofs.opens_32.Goals as goal

pub returns : goal.returns
returns c = rw c.field.ensures (opening c.args.h)
