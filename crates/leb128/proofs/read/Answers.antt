use Rattle.leb128.specs.Leb128.{read_number}
use Rattle.leb128.proofs.read.Goals as goal

pub returns : goal.returns
unfolding read_number
returns c = c.read_groups.ensures
