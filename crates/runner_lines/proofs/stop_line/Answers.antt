use Rattle.text.proofs.Grows.{◌then◌}
use Rattle.runner_lines.specs.Lines.{stop_text}
use Rattle.runner_lines.proofs.stop_line.Goals as goal

pub returns-in-Budget : goal.returns-in-Budget
unfolding stop_text
returns-in-Budget c = rw c.in-Budget.is c.put.ensures

pub returns-in-Service : goal.returns-in-Service
unfolding stop_text
returns-in-Service c =
    rw c.in-Service.is (c.put_service.ensures then c.push.ensures)

pub returns-in-ServiceBy : goal.returns-in-ServiceBy
unfolding stop_text
returns-in-ServiceBy c =
    rw c.in-ServiceBy.is
    (c.put_service-in-ServiceBy.ensures then c.push-in-ServiceBy.ensures
    then c.put_hex.ensures then c.push-in-ServiceBy-2.ensures)

pub returns-in-Fault : goal.returns-in-Fault
unfolding stop_text
returns-in-Fault c =
    rw (c.in-Fault.is, ← c.from.ensures)
    c.number_line.ensures

pub returns-in-Unlisted : goal.returns-in-Unlisted
unfolding stop_text
returns-in-Unlisted c = rw c.in-Unlisted.is c.put-in-Unlisted.ensures

pub returns-in-Refused : goal.returns-in-Refused
unfolding stop_text
returns-in-Refused c = rw c.in-Refused.is c.put-in-Refused.ensures
