use native.Mathlib.Omega.{arith}
use Rattle.short_form.proofs.Numbers.{numbers_set}
use Rattle.short_form.proofs.numbers_for.Goals as goal

pub returns : goal.returns
returns c = numbers_set c.args.values (omega arith)
