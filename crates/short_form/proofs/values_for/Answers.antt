use mathlib.Core.Path.{◌≡◌, sym, ◌∙◌}
use native.Mathlib.Omega.{arith}
use lib.Seq.{take_all}
use Rattle.short_form.proofs.Numbers.{values_set}
use Rattle.short_form.proofs.values_for.Goals as goal

-- all of them have
copied : (c : goal.After-loop-i) → c.loop-i.values ≡ c.args.numbers
copied c =
    let l = c.loop-i in
    sym (take_all l.i l.values (omega arith)) ∙ l.invariant.same ∙ take_all l.i c.args.numbers (omega arith)

pub returns : goal.returns
returns c = rw (copied c) (values_set c.args.numbers (omega arith))
