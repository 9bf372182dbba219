use mathlib.Core.Path.{◌∙◌}
use native.Mathlib.Omega.{arith}
use lib.ListN.{length-set}
use Rattle.endian.specs.LittleEndian.{width_of}
use Rattle.endian.proofs.Theorems.{width_le}
use Rattle.layout.specs.StoredForm.{stored_form}
use Rattle.layout.proofs.Fields.{length_at_most}
use Rattle.layout.proofs.Laws.{next, read_one, all_read}
use Rattle.layout.proofs.values_in.Goals as goal

pub overflow_add-at : goal.overflow_add-at
overflow_add-at c = omega (arith, length_at_most stored_form c.loop-i.i, width_le c.size_of-size.result)

pub loop-i-preserved : goal.loop-i-preserved
loop-i-preserved c =
    let l = c.loop-i in
    let size = c.size_of-size in record {
      place = rw c.width.ensures (next stored_form l.i l.at (width_of size.result) (omega arith) l.invariant.place size.ensures);
      size = length-set l.values l.i _ ∙ l.invariant.size;
      read = rw c.load.ensures
          (read_one stored_form l.i l.at (width_of size.result) (omega arith) l.invariant.place size.ensures l.values c.args.bytes.now (omega arith) l.invariant.read);
    }

pub returns : goal.returns
returns c =
    let l = c.loop-i in
    all_read stored_form l.values c.args.bytes.now l.i (omega arith) (omega arith) l.invariant.read
