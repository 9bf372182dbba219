use mathlib.Core.Path.{◌≡◌, refl, ap}
use mathlib.Core.Bool.{true, false}
use native.Mathlib.Omega.{arith}
use Rattle.bits.specs.Fields.{bits}
use Rattle.isa.specs.Patterns.{matches}
use Rattle.isa16.specs.Classes.{class_of}
use Rattle.isa.specs.ListedEncodings.{lines16}
use Rattle.isa16.proofs.Lines.{line_at}
use Rattle.isa.specs.declared.Instruction.TheVariants.{Service}
use Rattle.isa16.specs.declared.Operands.{Operands}
use Rattle.isa16.proofs.Classes.{Means, by_low}
use Rattle.isa16.proofs.service.Goals as goal

-- each row stands for the service
abbrev alike : Means (λ h. Service (bits h 7 0)) (line_at lines16 23)
alike = (refl, (refl, (refl, (refl, (refl, (refl, (refl, tt)))))))

pub returns-then-imm8-lt233 : goal.returns-then-imm8-lt233
unfolding class_of matches
returns-then-imm8-lt233 c =
    let h = c.args.h in
    let low : c.read_operands-f.result.imm8 ≡ bits h 7 0 = ap (λ (f : Operands). f.imm8) c.read_operands-f.ensures in
    rw low (by_low 0xDF 23 refl (λ h. Service (bits h 7 0)) alike true 0 0xE9 refl h c.requires (omega arith) (omega arith))

pub returns-then-imm8-lt240 : goal.returns-then-imm8-lt240
unfolding class_of matches
returns-then-imm8-lt240 c =
    let h = c.args.h in
    let low : c.read_operands-f.result.imm8 ≡ bits h 7 0 = ap (λ (f : Operands). f.imm8) c.read_operands-f.ensures in
    by_low 0xDF 23 refl (λ h. Service (bits h 7 0)) alike false 0xE9 7 refl h c.requires (omega arith) (omega arith)

pub returns : goal.returns
unfolding class_of matches
returns c =
    let h = c.args.h in
    let low : c.read_operands-f.result.imm8 ≡ bits h 7 0 = ap (λ (f : Operands). f.imm8) c.read_operands-f.ensures in
    rw low (by_low 0xDF 23 refl (λ h. Service (bits h 7 0)) alike true 0xF0 16 refl h c.requires (omega arith) (omega arith))
