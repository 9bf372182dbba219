use lib.Dec.{lit<}
use Rattle.layout.specs.StoredForm.{stored_form}
use Rattle.layout.proofs.Fields.{decode_below}
use Rattle.layout.proofs.record_in.Goals as goal

pub record_of-requires : goal.record_of-requires
record_of-requires c = rw c.values_in.ensures (decode_below stored_form 11 c.args.bytes.now (lit< tt) (λ k. (c.type_inv.bytes k).fits))
