use mathlib.Core.Path.{◌≡◌, refl, sym, ◌∙◌}
use Prim.Native.Nat.{◌/◌, ◌^◌}
use native.Mathlib.Omega.{arith}
use lib.Dec.{eqb, lit<}
use borrow.Author.Tests.{eqb-true}
use Rattle.laws.proofs.Runs.{past}
use Rattle.bits.specs.Fields.{bits}
use Rattle.isa.specs.Patterns.{matches}
use Rattle.isa.specs.ListedEncodings.{imm5_m_d, m_n_d, d_imm8, t_imm8, imm6_of}
use Rattle.isa.specs.declared.Instruction.TheVariants.{Cbz, Cbnz, Bcc, B}
use Rattle.isa.specs.declared.Operation.TheVariants.{LslImm, LsrImm, AsrImm, AddReg, SubReg, AddImm3, SubImm3, MovImm, CmpImm, AddImm, SubImm, AddSp}
use Rattle.isa.specs.declared.Access.TheVariants.{LdrLit, StrSp, LdrSp}
use Rattle.isa16.proofs.Classes.{by_class, class_tops, no_class}
use Rattle.isa16.proofs.of_class.Goals as goal

pub register_operation-requires : goal.register_operation-requires
unfolding matches
register_operation-requires c = let e : c.args.h / 2 ^ 8 / 4 ≡ 16 = eqb-true _ 16 (class_tops 11 (λ t. eqb (t / 4) 16) refl (lit< tt) (c.args.h / 2 ^ 8) (omega arith) (sym c.in-11.is ∙ c.requires)) in omega arith

pub move_register-requires : goal.move_register-requires
unfolding matches
move_register-requires c = eqb-true _ 0x46 (class_tops 12 (λ t. eqb t 0x46) refl (lit< tt) (c.args.h / 2 ^ 8) (omega arith) (sym c.in-12.is ∙ c.requires))

pub extension-requires : goal.extension-requires
unfolding matches
extension-requires c = eqb-true _ 0xB2 (class_tops 17 (λ t. eqb t 0xB2) refl (lit< tt) (c.args.h / 2 ^ 8) (omega arith) (sym c.in-17.is ∙ c.requires))

pub nop-requires : goal.nop-requires
unfolding matches
nop-requires c = eqb-true _ 0xBF (class_tops 18 (λ t. eqb t 0xBF) refl (lit< tt) (c.args.h / 2 ^ 8) (omega arith) (sym c.in-18.is ∙ c.requires))

pub service-requires : goal.service-requires
unfolding matches
service-requires c = eqb-true _ 0xDF (class_tops 23 (λ t. eqb t 0xDF) refl (lit< tt) (c.args.h / 2 ^ 8) (omega arith) (sym c.in-23.is ∙ c.requires))

pub returns-in-0 : goal.returns-in-0
returns-in-0 c = rw c.read_operands-f.ensures (by_class 0 (imm5_m_d LslImm) (refl, refl, tt) (lit< tt) c.args.h (sym c.in-0.is ∙ c.requires))

pub returns-in-1 : goal.returns-in-1
returns-in-1 c = rw c.read_operands-f.ensures (by_class 1 (imm5_m_d LsrImm) (refl, refl, tt) (lit< tt) c.args.h (sym c.in-1.is ∙ c.requires))

pub returns-in-2 : goal.returns-in-2
returns-in-2 c = rw c.read_operands-f.ensures (by_class 2 (imm5_m_d AsrImm) (refl, refl, tt) (lit< tt) c.args.h (sym c.in-2.is ∙ c.requires))

pub returns-in-3 : goal.returns-in-3
returns-in-3 c = rw c.read_operands-f.ensures (by_class 3 (m_n_d AddReg) (refl, refl, tt) (lit< tt) c.args.h (sym c.in-3.is ∙ c.requires))

pub returns-in-4 : goal.returns-in-4
returns-in-4 c = rw c.read_operands-f.ensures (by_class 4 (m_n_d SubReg) (refl, refl, tt) (lit< tt) c.args.h (sym c.in-4.is ∙ c.requires))

pub returns-in-5 : goal.returns-in-5
returns-in-5 c = rw c.read_operands-f.ensures (by_class 5 (m_n_d AddImm3) (refl, refl, tt) (lit< tt) c.args.h (sym c.in-5.is ∙ c.requires))

pub returns-in-6 : goal.returns-in-6
returns-in-6 c = rw c.read_operands-f.ensures (by_class 6 (m_n_d SubImm3) (refl, refl, tt) (lit< tt) c.args.h (sym c.in-6.is ∙ c.requires))

pub returns-in-7 : goal.returns-in-7
returns-in-7 c = rw c.read_operands-f.ensures (by_class 7 (d_imm8 MovImm) (refl, refl, tt) (lit< tt) c.args.h (sym c.in-7.is ∙ c.requires))

pub returns-in-8 : goal.returns-in-8
returns-in-8 c = rw c.read_operands-f.ensures (by_class 8 (d_imm8 CmpImm) (refl, refl, tt) (lit< tt) c.args.h (sym c.in-8.is ∙ c.requires))

pub returns-in-9 : goal.returns-in-9
returns-in-9 c = rw c.read_operands-f.ensures (by_class 9 (d_imm8 AddImm) (refl, refl, tt) (lit< tt) c.args.h (sym c.in-9.is ∙ c.requires))

pub returns-in-10 : goal.returns-in-10
returns-in-10 c = rw c.read_operands-f.ensures (by_class 10 (d_imm8 SubImm) (refl, refl, tt) (lit< tt) c.args.h (sym c.in-10.is ∙ c.requires))

pub returns-in-13 : goal.returns-in-13
returns-in-13 c = rw c.read_operands-f.ensures (by_class 13 (t_imm8 LdrLit) (refl, refl, tt) (lit< tt) c.args.h (sym c.in-13.is ∙ c.requires))

pub returns-in-14 : goal.returns-in-14
returns-in-14 c = rw c.read_operands-f.ensures (by_class 14 (t_imm8 StrSp) (refl, refl, tt) (lit< tt) c.args.h (sym c.in-14.is ∙ c.requires))

pub returns-in-15 : goal.returns-in-15
returns-in-15 c = rw c.read_operands-f.ensures (by_class 15 (t_imm8 LdrSp) (refl, refl, tt) (lit< tt) c.args.h (sym c.in-15.is ∙ c.requires))

pub returns-in-16 : goal.returns-in-16
returns-in-16 c = rw c.read_operands-f.ensures (by_class 16 (d_imm8 AddSp) (refl, refl, tt) (lit< tt) c.args.h (sym c.in-16.is ∙ c.requires))

pub returns-in-19 : goal.returns-in-19
returns-in-19 c = rw c.read_operands-f.ensures (by_class 19 (λ h. Cbz (imm6_of h) (bits h 2 0)) (refl, refl, tt) (lit< tt) c.args.h (sym c.in-19.is ∙ c.requires))

pub returns-in-20 : goal.returns-in-20
returns-in-20 c = rw c.read_operands-f.ensures (by_class 20 (λ h. Cbnz (imm6_of h) (bits h 2 0)) (refl, refl, tt) (lit< tt) c.args.h (sym c.in-20.is ∙ c.requires))

pub returns-in-21 : goal.returns-in-21
returns-in-21 c = rw c.read_operands-f.ensures (by_class 21 (λ h. Bcc (bits h 11 8) (bits h 7 0)) (refl, refl, (refl, refl, (refl, refl, tt))) (lit< tt) c.args.h (sym c.in-21.is ∙ c.requires))

pub returns-in-22 : goal.returns-in-22
returns-in-22 c = rw c.read_operands-f.ensures (by_class 22 (λ h. B (bits h 10 0)) (refl, refl, tt) (lit< tt) c.args.h (sym c.in-22.is ∙ c.requires))

pub returns-in_default : goal.returns-in_default
returns-in_default c = no_class c.args.h c.args.k c.requires (past 24 c.in_default.in_default-own.rest)
