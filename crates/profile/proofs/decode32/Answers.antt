use mathlib.Core.Path.{◌∙◌}
use native.Mathlib.Omega.{arith}
use Rattle.isa.specs.ListedEncodings.{listed32, word_of}
use Rattle.profile.proofs.Laws.{of_full, of_other32}
use Rattle.profile.proofs.decode32.Goals as goal

pub returns-in-0 : goal.returns-in-0
returns-in-0 c = c.decode32.ensures ∙ of_full _ listed32 _ c.in-0.is

pub returns-in_default : goal.returns-in_default
returns-in_default c = of_other32 c.args.platform.profile (word_of c.args.first c.args.second) (omega arith)
