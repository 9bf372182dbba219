use mathlib.Core.Path.{sym, ap, ◌∙◌}
use mathlib.Core.Bool.{true, false, not}
use native.Mathlib.Omega.{arith}
use Rattle.isa.specs.ListedEncodings.{listed16}
use Rattle.profile.proofs.Laws.{of_full, of_small16, of_none}
use Rattle.profile.proofs.decode16.Goals as goal

pub returns-then-platform-eq0 : goal.returns-then-platform-eq0
returns-then-platform-eq0 c = c.decode16.ensures ∙ of_full _ listed16 _ c.if-platform-eq0.true

pub returns-in-1 : goal.returns-in-1
returns-in-1 c = of_small16 _ _ _ true c.in-1.is c.decode16-i.ensures (ap not (sym c.compares_and_branches.ensures ∙ c.if-not-compares_and_branches.true))

pub returns-in_default : goal.returns-in_default
returns-in_default c = of_small16 _ _ _ false c.in-1.is c.decode16-i.ensures (ap not (sym c.compares_and_branches.ensures ∙ c.if-not-compares_and_branches.false))

pub returns-in_default-2 : goal.returns-in_default-2
returns-in_default-2 c = of_none _ listed16 _ (omega (arith, c.if-platform-eq0.false))
