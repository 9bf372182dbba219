use native.Mathlib.Omega.{arith}
use Rattle.text.proofs.Grows.{◌then◌}
use Rattle.leb128.proofs.Laws.{leb128_last, leb128_lower}
use Rattle.leb128.proofs.+put.Goals as goal

pub returns-then-x-lt128 : goal.returns-then-x-lt128
returns-then-x-lt128 t c = rw (leb128_last c.args.x (omega arith)) c.push.ensures

pub returns : goal.returns
returns t c = rw (leb128_lower c.args.x (omega arith) (omega arith)) (c.push-2.ensures then c.put.ensures)
