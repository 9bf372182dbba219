use native.Mathlib.Omega.{arith}
use mathlib.Core.Path.{sym, ◌∙◌}
use Rattle.frame.proofs.InRam.{done_small}
use Rattle.transfer.proofs.Laws.{read_done}
use Rattle.transfer.proofs.return_from.Goals as goal

pub leave-requires : goal.leave-requires
leave-requires c = omega (arith, done_small _ _ (read_done _ _ _ _ (sym c.read.ensures ∙ c.in_ok-words.was)))
