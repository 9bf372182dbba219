use mathlib.Core.Path.{◌∙◌}
use native.Mathlib.Omega.{arith}
use mir.Syntax.{w64}
use mir.ValLaws.{to_z_pos}
use Rattle.bits.proofs.Integers.{no_sign}
use Rattle.bits.proofs.sign_extended.Goals as goal

pub returns-then-n-gt32 : goal.returns-then-n-gt32
returns-then-n-gt32 c = to_z_pos w64 c.args.x (omega arith) ∙ no_sign c.args.x c.args.n (omega arith) (omega arith)
