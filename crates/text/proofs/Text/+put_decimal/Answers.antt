use mathlib.Core.Path.{◌≡◌}
use Prim.Native.Nat.{◌%◌}
use native.Mathlib.Omega.{arith}
use Rattle.text.proofs.Grows.{◌then◌}
use Rattle.text.proofs.Digits.{decimal_one, decimal_last}
use Rattle.text.proofs.Text.+put_decimal.Goals as goal
use Rattle.text.proofs.Text.+put_decimal.Goals.{then-x-ge10, else-x-ge10}

pub returns : goal.returns
returns t c =
    let x = c.args.x in
    let last = rw c.digit.ensures at c.push.ensures in
    elim c.if-x-ge10.branch [
      | then-x-ge10 w ↦ rw (decimal_last x (omega arith) (omega arith)) (w.put_decimal.ensures then rw w.self-is at last)
      | else-x-ge10 w ↦
          let one : x % 10 ≡ x = omega arith in
          rw (decimal_one x (omega arith)) (rw (w.self-is, one) at last)
    ]
