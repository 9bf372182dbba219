-- What a data-processing instruction writes, by its encoding, as the manual has it: an operation on values gives a value and flags,
-- and the encoding says which registers the operands are and where the value goes.
use Rattle.std.specs.Prelude.{ℕ, ◌+◌, ◌*◌, ◌%◌, ◌^◌, List, Some, None, bit_and, bit_or, bit_xor}
use Rattle.bits.specs.Fields.{bits}
use Rattle.isa.specs.declared.Operation.{Operation}
use Rattle.isa.specs.declared.Operation.TheVariants.{LslImm, LsrImm, AsrImm, AddReg, SubReg, AddImm3, SubImm3, MovImm, CmpImm, AddImm, SubImm, And, Eor, LslReg, LsrReg, AsrReg, Adc, Sbc, RorReg, Tst, Rsb, CmpReg, Cmn, Orr, Mul, Bic, Mvn, MovReg, AddSp, Sxth, Sxtb, Uxth, Uxtb, Nop, Movw, Movt, Sdiv, Udiv}
use Rattle.words.specs.Shifts.{immediate_amount}
use Rattle.words.specs.Products.{product, unsigned_quotient, signed_quotient}
use Rattle.words.specs.Bitwise.{not_word, sign_extended}
use Rattle.arm.specs.declared.Flags.{Flags}
use Rattle.alu.specs.Operations.{mov, lsl, lsr, asr, ror, add, sub, adc, sbc, rsb}
use Rattle.alu.specs.declared.Valued.{Valued}
use Rattle.state.specs.Record.{register_in}
use Rattle.compute.specs.declared.Computed.{Computed}

-- the value goes to register d, and the flags are set
abbrev pub to : ℕ → Valued → Computed
to d v = record { register = Some (d, v.value); flags = v.flags }

-- the flags are set, and the value goes nowhere
abbrev pub flags_only : Valued → Computed
flags_only v = record { register = None; flags = v.flags }

-- a value goes to register d, and the flags stay
abbrev pub moved : ℕ → ℕ → Flags → Computed
moved d x f = record { register = Some (d, x); flags = f }

abbrev pub unchanged : Flags → Computed
unchanged f = record { register = None; flags = f }

-- the amount of a shift by a register
abbrev pub low_byte : ℕ → ℕ
low_byte x = bits x 7 0

-- movt: the upper half is imm16, the lower half stays
abbrev pub with_upper : ℕ → ℕ → ℕ
with_upper x imm16 = imm16 * 2 ^ 16 + bits x 15 0

-- ---- in the order of the listed encodings, with the operands of their encoding; registers, SP and flags are what is read

abbrev pub computed : Operation → List ℕ → ℕ → Flags → Computed
computed (LslImm imm5 m d) regs sp f = to d (lsl (register_in regs m) imm5 f)
computed (LsrImm imm5 m d) regs sp f = to d (lsr (register_in regs m) (immediate_amount imm5) f)
computed (AsrImm imm5 m d) regs sp f = to d (asr (register_in regs m) (immediate_amount imm5) f)
computed (AddReg m n d) regs sp f = to d (add (register_in regs n) (register_in regs m))
computed (SubReg m n d) regs sp f = to d (sub (register_in regs n) (register_in regs m))
computed (AddImm3 imm3 n d) regs sp f = to d (add (register_in regs n) imm3)
computed (SubImm3 imm3 n d) regs sp f = to d (sub (register_in regs n) imm3)
computed (MovImm d imm8) regs sp f = to d (mov imm8 f)
computed (CmpImm n imm8) regs sp f = flags_only (sub (register_in regs n) imm8)
computed (AddImm d imm8) regs sp f = to d (add (register_in regs d) imm8)
computed (SubImm d imm8) regs sp f = to d (sub (register_in regs d) imm8)
computed (And m d) regs sp f = to d (mov (bit_and (register_in regs d) (register_in regs m)) f)
computed (Eor m d) regs sp f = to d (mov (bit_xor (register_in regs d) (register_in regs m)) f)
computed (LslReg m d) regs sp f = to d (lsl (register_in regs d) (low_byte (register_in regs m)) f)
computed (LsrReg m d) regs sp f = to d (lsr (register_in regs d) (low_byte (register_in regs m)) f)
computed (AsrReg m d) regs sp f = to d (asr (register_in regs d) (low_byte (register_in regs m)) f)
computed (Adc m d) regs sp f = to d (adc (register_in regs d) (register_in regs m) f)
computed (Sbc m d) regs sp f = to d (sbc (register_in regs d) (register_in regs m) f)
computed (RorReg m d) regs sp f = to d (ror (register_in regs d) (low_byte (register_in regs m)) f)
computed (Tst m n) regs sp f = flags_only (mov (bit_and (register_in regs n) (register_in regs m)) f)
computed (Rsb n d) regs sp f = to d (rsb (register_in regs n))
computed (CmpReg m n) regs sp f = flags_only (sub (register_in regs n) (register_in regs m))
computed (Cmn m n) regs sp f = flags_only (add (register_in regs n) (register_in regs m))
computed (Orr m d) regs sp f = to d (mov (bit_or (register_in regs d) (register_in regs m)) f)
computed (Mul n d) regs sp f = to d (mov (product (register_in regs n) (register_in regs d)) f)
computed (Bic m d) regs sp f = to d (mov (bit_and (register_in regs d) (not_word (register_in regs m))) f)
computed (Mvn m d) regs sp f = to d (mov (not_word (register_in regs m)) f)
computed (MovReg m d) regs sp f = moved d (register_in regs m) f
computed (AddSp d imm8) regs sp f = moved d ((sp + 4 * imm8) % 2 ^ 32) f
computed (Sxth m d) regs sp f = moved d (sign_extended 16 (bits (register_in regs m) 15 0)) f
computed (Sxtb m d) regs sp f = moved d (sign_extended 8 (bits (register_in regs m) 7 0)) f
computed (Uxth m d) regs sp f = moved d (bits (register_in regs m) 15 0) f
computed (Uxtb m d) regs sp f = moved d (bits (register_in regs m) 7 0) f
computed Nop regs sp f = unchanged f
computed (Movw imm16 d) regs sp f = moved d imm16 f
computed (Movt imm16 d) regs sp f = moved d (with_upper (register_in regs d) imm16) f
computed (Sdiv n d m) regs sp f = moved d (signed_quotient (register_in regs n) (register_in regs m)) f
computed (Udiv n d m) regs sp f = moved d (unsigned_quotient (register_in regs n) (register_in regs m)) f
