use mathlib.Core.List.{append-nil}
use Rattle.refusal.specs.Refusals.{refusal_number}
use Rattle.text.specs.Digits.{decimal}
use Rattle.text.proofs.Grows.{◌then◌}
use Rattle.refusal_line.specs.RefusalLine.{values_text, refused_text}
use Rattle.refusal_line.proofs.put.Goals as goal
use Rattle.refusal_line.proofs.put.Goals.{in-Some, in_default}

pub returns : goal.returns
unfolding refused_text values_text
returns c =
    let number = rw c.from.ensures at (c.put.ensures then c.put_decimal.ensures) in
    elim c.match-carries.branch [
      | in-Some w ↦
          let value = w.push.ensures then w.put_decimal-in-Some.ensures in
          rw (← c.carries.ensures, w.in-Some.is, append-nil) (number then value then rw w.text-is at c.push-2.ensures)
      | in_default w ↦ rw (← c.carries.ensures, w.in_default.is, append-nil (decimal (refusal_number c.args.refusal))) (number then rw w.text-is at c.push-2.ensures)
    ]
