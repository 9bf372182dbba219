use native.Mathlib.Omega.{arith}
use Rattle.text.specs.Digits.{hex}
use Rattle.text.proofs.Grows.{◌then◌}
use Rattle.text.proofs.Digits.{hex_last}
use Rattle.text.proofs.Text.+put_hex.Goals as goal

pub returns-then-digits-eq0 : goal.returns-then-digits-eq0
unfolding hex
returns-then-digits-eq0 t c = rw c.if-digits-eq0.true c.put_nothing.ensures

pub returns : goal.returns
unfolding hex
returns t c = rw (hex_last c.args.digits c.args.x (omega arith)) (c.put_hex.ensures then (rw c.digit.ensures at c.push.ensures))
