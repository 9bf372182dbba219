use mathlib.Core.Path.{sym}
use native.Mathlib.Omega.{arith}
use lib.Bits.{and_mask}
use Rattle.bits.proofs.Laws.{no_field}
use Rattle.platform.proofs.never_returns.Goals as goal

pub returns-then-n-ge64 : goal.returns-then-n-ge64
returns-then-n-ge64 c = rw (sym (no_field 64 c.args.platform.never_return c.args.n 1 (omega arith) (omega arith)))

pub returns : goal.returns
returns c = rw (and_mask _ 1)
