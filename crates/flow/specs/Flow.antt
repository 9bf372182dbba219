-- Terminators, and how the flow goes on at an instruction, by its encoding and its place.
use Rattle.std.specs.Prelude.{ℕ, Bool, true, false, cond, pos, Option, Some, None}
use Rattle.bits.specs.Fields.{bits}
use Rattle.bits.specs.Integers.{SInt}
use Rattle.isa.specs.declared.Instruction.{Instruction}
use Rattle.isa.specs.declared.Instruction.TheVariants.{Data, Memory, Cbz, Cbnz, Bcc, B, Service, Unlisted}
use Rattle.branch.specs.Branches.{target_of}
use Rattle.platform.specs.Programs.{Program}
use Rattle.ending.specs.Endings.{ending_in}
use Rattle.ending.specs.declared.Ending.{Ending}
use Rattle.ending.specs.declared.Ending.TheVariants.{GoesOn, Exit, LastExit}
use Rattle.ending.specs.declared.Ending.TheVariants as ending
use Rattle.flow.specs.declared.Jump.{Jump}
use Rattle.flow.specs.declared.Jump.TheVariants.{NoJump, JumpTo}
use Rattle.flow.specs.declared.Jump.TheVariants as jump
use Rattle.flow.specs.declared.Flow.{Flow}
use Rattle.flow.specs.declared.Flow.TheVariants.{Bad, Next, NextOr, To, Ends}

-- ---- terminators

abbrev pub ends_flow : Ending → Bool
ends_flow GoesOn = false
ends_flow Exit = false
ends_flow LastExit = true
ends_flow ending.Bad = false

-- terminators: b, the services that the build paper marks, and the syscalls that the platform says never return
abbrev pub terminator : Program → Instruction → Bool
terminator program (Data operation) = false
terminator program (Memory access) = false
terminator program (Cbz imm6 n) = false
terminator program (Cbnz imm6 n) = false
terminator program (Bcc condition imm8) = false
terminator program (B imm11) = true
terminator program (Service n) = ends_flow (ending_in program n)
terminator program Unlisted = false

-- ---- where it may go beside what stands behind it

-- a branch whose target is bad is bad itself
abbrev pub jump_to : Option ℕ → Jump
jump_to None = jump.Bad
jump_to (Some b) = JumpTo b

-- a service has no target
abbrev pub service_jump : Ending → Jump
service_jump GoesOn = NoJump
service_jump Exit = NoJump
service_jump LastExit = NoJump
service_jump ending.Bad = jump.Bad

-- offsets are signed for b and bcc, unsigned for cbz and cbnz
abbrev pub jump_of : Program → ℕ → Instruction → Jump
jump_of program place (Data operation) = NoJump
jump_of program place (Memory access) = NoJump
jump_of program place (Cbz imm6 n) = jump_to (target_of place (pos imm6))
jump_of program place (Cbnz imm6 n) = jump_to (target_of place (pos imm6))
jump_of program place (Bcc condition imm8) = jump_to (target_of place (SInt 8 imm8))
jump_of program place (B imm11) = jump_to (target_of place (SInt 11 (bits imm11 10 0)))
jump_of program place (Service n) = service_jump (ending_in program n)
jump_of program place Unlisted = jump.Bad

-- ---- the flow: it goes on to the next unless a terminator stops it

abbrev pub flow_by : Bool → Jump → Flow
flow_by terminates jump.Bad = Bad
flow_by terminates NoJump = cond terminates Ends Next
flow_by terminates (JumpTo b) = cond terminates (To b) (NextOr b)

unfoldable pub flow_of : Program → ℕ → Instruction → Flow
flow_of program place i = flow_by (terminator program i) (jump_of program place i)

-- the build paper's "listed": it matches a listed encoding
abbrev pub listed : Instruction → Bool
listed (Data operation) = true
listed (Memory access) = true
listed (Cbz imm6 n) = true
listed (Cbnz imm6 n) = true
listed (Bcc condition imm8) = true
listed (B imm11) = true
listed (Service n) = true
listed Unlisted = false
