use Rattle.text.proofs.Grows.{◌then◌}
use Rattle.lister_lines.specs.Lines.{head_text}
use Rattle.lister_lines.proofs.head_line.Goals as goal

pub returns : goal.returns
unfolding head_text
returns c =
    c.put.ensures then c.put_decimal.ensures then c.put-2.ensures
    then c.put_decimal-2.ensures then c.push.ensures
