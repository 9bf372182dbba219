use mathlib.Core.Path.{◌≡◌}
use lib.ListN.{length}
use borrow.Author.Rules.{rules}
use Rattle.writing.specs.Writes.{applied}
use Rattle.state.proofs.Registers.{set_eighth}
use Rattle.writing.proofs.applied.Goals.{in-Some, in_default}
use Rattle.writing.proofs.applied.Goals as goal

pub returns : goal.returns
unfolding applied
returns c = elim c.match-w.branch [
  | in-Some w ↦
      let l : length c.args.r.regs ≡ 8 = search rules in
      rw (w.regs-is, w.in-Some.is, w.set_in.ensures, set_eighth _ _ _ l)
  | in_default w ↦ rw (w.regs-is, w.in_default.is)
]
