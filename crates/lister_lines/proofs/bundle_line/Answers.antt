use Rattle.text.proofs.Grows.{◌then◌}
use Rattle.lister_lines.specs.Lines.{bundle_text}
use Rattle.lister_lines.proofs.bundle_line.Goals as goal

pub returns : goal.returns
unfolding bundle_text
returns c =
    c.put_decimal.ensures then c.push.ensures
    then c.put_hex.ensures then c.push-2.ensures
    then c.put_hex-2.ensures then c.push-3.ensures
    then c.put_inside.ensures then c.push-4.ensures
    then c.put_largest.ensures then c.push-5.ensures
