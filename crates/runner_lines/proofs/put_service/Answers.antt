use Rattle.text.proofs.Grows.{◌then◌}
use Rattle.runner_lines.proofs.put_service.Goals as goal

pub returns : goal.returns
returns c = c.put.ensures then c.put_hex.ensures
