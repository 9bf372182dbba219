use Rattle.text.proofs.Grows.{◌then◌}
use Rattle.text.proofs.Text.number_line.Goals as goal

pub returns : goal.returns
returns c = c.put.ensures then c.put_decimal.ensures then c.push.ensures
