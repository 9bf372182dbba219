use Rattle.bits.proofs.Laws.{shift_mask, no_field, whole_field}
use native.Mathlib.Omega.{arith}
use Rattle.bits.proofs.field.Goals as goal

pub returns-then-lo-ge32 : goal.returns-then-lo-ge32
returns-then-lo-ge32 c = no_field 32 c.args.x c.args.lo c.args.n (omega arith) (omega arith)

pub returns-then-n-ge32 : goal.returns-then-n-ge32
returns-then-n-ge32 c = whole_field c.args.x c.args.lo c.args.n (omega arith) (omega arith)

pub returns : goal.returns
returns c = shift_mask c.args.x c.args.lo c.args.n (omega arith)
