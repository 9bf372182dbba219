use mathlib.Core.Path.{sym}
use lib.ListN.{get_or-eq_default}
use Rattle.state.proofs.register_in.Goals as goal

pub returns-else-i-regs : goal.returns-else-i-regs
returns-else-i-regs c = sym (get_or-eq_default c.args.regs.now 0 c.if-i-regs.false)
