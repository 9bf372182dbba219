use Rattle.text.proofs.Grows.{◌then◌}
use Rattle.runner_lines.specs.Lines.{flags_text}
use Rattle.runner_lines.proofs.flags_line.Goals as goal

pub returns : goal.returns
unfolding flags_text
returns c =
    c.put.ensures then c.put_flag.ensures then c.put_flag-2.ensures
    then c.put_flag-3.ensures then c.put_flag-4.ensures then c.push.ensures
