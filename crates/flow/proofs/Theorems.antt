-- Terminators and flows look at nothing of a program but how its services end.
use mathlib.Core.Path.{◌≡◌, refl}
use Prim.Native.Nat.{ℕ}
use Rattle.platform.specs.Programs.{Program}
use Rattle.isa.specs.declared.Instruction.{Instruction}
use Rattle.isa.specs.declared.Instruction.TheVariants.{Data, Memory, Cbz, Cbnz, Bcc, B, Service, Unlisted}
use Rattle.ending.specs.Endings.{ending_in}
use Rattle.flow.specs.Flow.{terminator, flow_of}

module _ (one other : Program) where
  -- an instruction whose service, if it is one, ends alike
  abbrev pub SameEnding : Instruction → Type 0
  SameEnding i = (n : ℕ) → i ≡ Service n → ending_in one n ≡ ending_in other n

  pub terminator_same : (i : Instruction) → SameEnding i → terminator one i ≡ terminator other i
  terminator_same (Data operation) h = refl
  terminator_same (Memory access) h = refl
  terminator_same (Cbz imm6 n) h = refl
  terminator_same (Cbnz imm6 n) h = refl
  terminator_same (Bcc condition imm8) h = refl
  terminator_same (B imm11) h = refl
  terminator_same (Service n) h = rw (h n refl)
  terminator_same Unlisted h = refl

  pub flow_same : (place : ℕ) (i : Instruction) → SameEnding i → flow_of one place i ≡ flow_of other place i
  unfolding flow_of
  flow_same place (Data operation) h = refl
  flow_same place (Memory access) h = refl
  flow_same place (Cbz imm6 n) h = refl
  flow_same place (Cbnz imm6 n) h = refl
  flow_same place (Bcc condition imm8) h = refl
  flow_same place (B imm11) h = refl
  flow_same place (Service n) h = rw (h n refl)
  flow_same place Unlisted h = refl
