use mathlib.Core.Path.{refl}
use mathlib.Core.Bool.{true, false}
use native.Mathlib.Omega.{arith}
use Rattle.isa.specs.Patterns.{matches}
use Rattle.isa16.specs.Classes.{class_of}
use Rattle.isa.specs.declared.Instruction.TheVariants.{Data}
use Rattle.isa.specs.declared.Operation.TheVariants.{Nop}
use Rattle.isa16.proofs.Classes.{by_low}
use Rattle.isa16.proofs.nop.Goals as goal

pub returns-then-field-eq0 : goal.returns-then-field-eq0
unfolding class_of matches
returns-then-field-eq0 c = by_low 0xBF 18 refl (λ h. Data Nop) (refl, tt) true 0 1 refl c.args.h c.requires (omega arith) (omega arith)

pub returns-else-field-eq0 : goal.returns-else-field-eq0
unfolding class_of matches
returns-else-field-eq0 c = by_low 0xBF 18 refl (λ h. Data Nop) (refl, tt) false 1 255 refl c.args.h c.requires (omega arith) (omega arith)
