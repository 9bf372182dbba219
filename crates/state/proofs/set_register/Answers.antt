use mathlib.Core.Path.{◌≡◌}
use lib.ListN.{length}
use borrow.Author.Rules.{rules}
use Rattle.state.specs.Record.{with_register}
use Rattle.state.proofs.Registers.{set_eighth}
use Rattle.state.proofs.set_register.Goals as goal

pub returns : goal.returns
unfolding with_register
returns c =
    let l : length c.args.r.regs ≡ 8 = search rules in
    rw (c.set_in.ensures, set_eighth _ _ _ l)
