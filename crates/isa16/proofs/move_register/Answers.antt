use mathlib.Core.Path.{◌≡◌, refl, ap}
use mathlib.Core.Bool.{true, false}
use native.Mathlib.Omega.{arith}
use Rattle.bits.specs.Fields.{bits}
use Rattle.isa.specs.Patterns.{matches}
use Rattle.isa16.specs.Classes.{class_of}
use Rattle.isa.specs.ListedEncodings.{m_d}
use Rattle.isa.specs.declared.Operation.TheVariants.{MovReg}
use Rattle.isa16.specs.declared.Operands.{Operands}
use Rattle.isa16.proofs.Classes.{by_low}
use Rattle.isa16.proofs.move_register.Goals as goal

pub returns-then-f-lt64 : goal.returns-then-f-lt64
unfolding class_of matches
returns-then-f-lt64 c =
    let h = c.args.h in
    let low : c.read_operands-f.result.imm8 ≡ bits h 7 0 = ap (λ (f : Operands). f.imm8) c.read_operands-f.ensures in
    rw c.read_operands-f.ensures
    (by_low 0x46 12 refl (m_d MovReg) (refl, tt) true 0 64 refl h c.requires (omega arith) (omega arith))

pub returns-else-f-lt64 : goal.returns-else-f-lt64
unfolding class_of matches
returns-else-f-lt64 c =
    let h = c.args.h in
    let low : c.read_operands-f.result.imm8 ≡ bits h 7 0 = ap (λ (f : Operands). f.imm8) c.read_operands-f.ensures in
    by_low 0x46 12 refl (m_d MovReg) (refl, tt) false 64 192 refl h c.requires (omega arith) (omega arith)
