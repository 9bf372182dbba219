use mathlib.Core.Path.{ap, ◌∙◌}
use native.Mathlib.Omega.{arith}
use lib.ListN.{length}
use Rattle.endian.specs.LittleEndian.{width_of}
use Rattle.endian.proofs.Theorems.{width_le, length_store}
use Rattle.layout.specs.StoredForm.{stored_form}
use Rattle.layout.proofs.Fields.{length_at_most}
use Rattle.layout.proofs.Laws.{next, written_lem, all_written}
use Rattle.layout.proofs.write_values.Goals as goal

pub overflow_add-at : goal.overflow_add-at
overflow_add-at c = omega (arith, length_at_most stored_form c.loop-i.i, width_le c.size_of-size.result)

pub loop-i-preserved : goal.loop-i-preserved
loop-i-preserved c =
    let l = c.loop-i in
    let size = c.size_of-size in
    let stored = c.store in record {
      place = rw c.width.ensures (next stored_form l.i l.at (width_of size.result) (omega arith) l.invariant.place size.ensures);
      written = rw (c.width.ensures, stored.ensures)
          (written_lem stored_form l.i l.at (width_of size.result) (omega arith) l.invariant.place size.ensures c.args.values l.room (omega arith) (omega arith) l.invariant.written);
      size = ap length stored.ensures ∙ length_store (width_of size.result) l.room l.at _ ∙ l.invariant.size;
    }

pub returns : goal.returns
returns c =
    let l = c.loop-i in
    all_written stored_form c.args.values l.room l.i l.at (omega arith) l.invariant.place (omega arith) l.invariant.written
