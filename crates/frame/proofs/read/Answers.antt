use mathlib.Core.Path.{sym, ◌∙◌}
use Rattle.frame.proofs.InRam.{frame_done}
use Rattle.frame.proofs.read.Goals as goal

pub overflow_sub-address : goal.overflow_sub-address
overflow_sub-address c = (frame_done _ _ (sym c.access.ensures ∙ c.in_ok-access.was)).0
