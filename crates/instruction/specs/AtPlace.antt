-- What two claims about an instruction speak of: pages that agree in what it reads, and when it means nothing listed.
use Rattle.std.specs.Prelude.{ℕ, ◌+◌, ◌/◌, List, ◌≡◌, true, pos, None}
use Rattle.page.specs.Page.{bundles_in, first_of, second_of, word_at}
use Rattle.isa.specs.declared.Access.{Access}
use Rattle.isa.specs.declared.Access.TheVariants.{LdrLit, StrSp, LdrSp, Str, Strb, Strh, Ldr, Ldrb, Ldrh, Ldrsb, Ldrsh}
use Rattle.isa.specs.declared.Instruction.{Instruction}
use Rattle.isa.specs.declared.Instruction.TheVariants.{Data, Memory, Cbz, Cbnz, Bcc, B, Service, Unlisted}
use Rattle.platform.specs.Programs.{Program}
use Rattle.place.specs.Places.{instruction_at}
use Rattle.bits.specs.Fields.{bits}
use Rattle.bits.specs.Integers.{SInt}
use Rattle.arm.specs.Conditions.{condition_holds}
use Rattle.branch.specs.Branches.{target_of}
use Rattle.service.specs.Services.{service_of}
use Rattle.literal.specs.declared.Service.TheVariants as service
use Rattle.state.specs.Record.{register}
use Rattle.state.specs.declared.Record.{Record}

-- the bundle whose word an instruction at a place reads
abbrev pub AccessNames : ℕ → Access → ℕ → Type 0
AccessNames place (LdrLit t imm8) k = k ≡ place / 2 + 1 + imm8
AccessNames place (StrSp t imm8) k = ⊥
AccessNames place (LdrSp t imm8) k = ⊥
AccessNames place (Str t imm12) k = ⊥
AccessNames place (Strb t imm12) k = ⊥
AccessNames place (Strh t imm12) k = ⊥
AccessNames place (Ldr n t imm12) k = ⊥
AccessNames place (Ldrb n t imm12) k = ⊥
AccessNames place (Ldrh n t imm12) k = ⊥
AccessNames place (Ldrsb n t imm12) k = ⊥
AccessNames place (Ldrsh n t imm12) k = ⊥

abbrev pub Names : ℕ → Instruction → ℕ → Type 0
Names place (Data operation) k = ⊥
Names place (Memory access) k = AccessNames place access k
Names place (Cbz imm6 n) k = ⊥
Names place (Cbnz imm6 n) k = ⊥
Names place (Bcc condition imm8) k = ⊥
Names place (B imm11) k = ⊥
Names place (Service n) k = k ≡ n
Names place Unlisted k = ⊥

pub record Agree (program : Program) (other : List ℕ) (place : ℕ) : Type 0 where
  pub bundles : bundles_in program.page ≡ bundles_in other
  pub first : first_of program.page (place / 2) ≡ first_of other (place / 2)
  pub second : second_of program.page (place / 2) ≡ second_of other (place / 2)
  pub literal : (k : ℕ) → Names place (instruction_at program place) k → word_at program.page k ≡ word_at other k

-- a service is bad if its literal is missing or bad; a target if it lies before the page or inside a bundle
abbrev pub Meaningless : List ℕ → Record → Instruction → Type 0
Meaningless page r (Data operation) = ⊥
Meaningless page r (Memory access) = ⊥
Meaningless page r (Cbz imm6 n) = (register r n ≡ 0) × (target_of r.place (pos imm6) ≡ None)
Meaningless page r (Cbnz imm6 n) = (register r n ≡ 0 → ⊥) × (target_of r.place (pos imm6) ≡ None)
Meaningless page r (Bcc condition imm8) = (condition_holds condition r.flags ≡ true) × (target_of r.place (SInt 8 imm8) ≡ None)
Meaningless page r (B imm11) = target_of r.place (SInt 11 (bits imm11 10 0)) ≡ None
Meaningless page r (Service n) = service_of page n ≡ service.Bad
Meaningless page r Unlisted = Unit {0}
