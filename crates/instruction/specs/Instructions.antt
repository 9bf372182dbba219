-- The definition of an instruction: it reads the program at the place and isn't given the count. A fault, or what is unlisted,
-- changes nothing.
use Rattle.std.specs.Prelude.{ℕ, ◌*◌, Bool, not, cond, List, eqb, pos, length, Option, Some, None}
use Rattle.bits.specs.Fields.{bits}
use Rattle.bits.specs.Integers.{SInt}
use Rattle.arm.specs.Conditions.{condition_holds}
use Rattle.page.specs.Page.{word_at}
use Rattle.platform.specs.Programs.{Setting}
use Rattle.isa.specs.declared.Operation.{Operation}
use Rattle.isa.specs.declared.Instruction.{Instruction}
use Rattle.isa.specs.declared.Instruction.TheVariants.{Data, Memory, Cbz, Cbnz, Bcc, B, Service, Unlisted}
use Rattle.branch.specs.Branches.{target_of}
use Rattle.service.specs.Services.{takes_literal, service_of}
use Rattle.ending.specs.Endings.{ending_in}
use Rattle.ending.specs.declared.Ending.{Ending}
use Rattle.ending.specs.declared.Ending.TheVariants as ending
use Rattle.state.specs.Record.{register, with_place}
use Rattle.writing.specs.Writes.{keeping, applied}
use Rattle.state.specs.declared.Record.{Record}
use Rattle.writing.specs.declared.Writes.{Writes}
use Rattle.compute.specs.Computed.{computed}
use Rattle.access.specs.Outcomes.{Outcome, does, fails}
use Rattle.access.specs.LoadsAndStores.{accessed}
use Rattle.effects.specs.ServiceEffects.{service_does}
use Rattle.stop.specs.Stops.{Exit, direct, by_literal}
use Rattle.plain.specs.PlainMachine.{Effect, goes_on, exits, faults, unlisted}
use Rattle.place.specs.Places.{instruction_at, following}

-- ---- where it goes

-- once done, it goes on or exits, as `end` says, at a place; or it meets a fault
unfoldable pub end_at : (Record → List ℕ → Effect) → Record → ℕ → Outcome → Effect
end_at end r place (does w ram) = end (applied r w place) ram
end_at end r place (fails fault) = faults fault

-- a branch that is taken goes to the first half of its target; one that has none means nothing listed
unfoldable pub branch_to : Record → List ℕ → Option ℕ → Effect
branch_to r ram None = unlisted
branch_to r ram (Some k) = goes_on (with_place r (2 * k)) ram

-- one that is not taken goes on behind itself
unfoldable pub branch_if : Bool → Record → List ℕ → ℕ → Option ℕ → Effect
branch_if taken r ram next t = cond taken (branch_to r ram t) (goes_on (with_place r next) ram)

-- offsets are signed for b and bcc, unsigned for cbz and cbnz
abbrev pub cbz : List ℕ → ℕ → ℕ → Record → List ℕ → Effect
cbz page imm6 n r ram = branch_if (eqb (register r n) 0) r ram (following page r.place) (target_of r.place (pos imm6))

abbrev pub cbnz : List ℕ → ℕ → ℕ → Record → List ℕ → Effect
cbnz page imm6 n r ram = branch_if (not (eqb (register r n) 0)) r ram (following page r.place) (target_of r.place (pos imm6))

abbrev pub bcc : List ℕ → ℕ → ℕ → Record → List ℕ → Effect
bcc page condition imm8 r ram =
    branch_if (condition_holds condition r.flags) r ram (following page r.place) (target_of r.place (SInt 8 imm8))

abbrev pub b : ℕ → Record → List ℕ → Effect
b imm11 r ram = branch_to r ram (target_of r.place (SInt 11 (bits imm11 10 0)))

-- ---- services

-- what an exit carries: the low byte and, for 01-7F, the literal
unfoldable pub exit_of : List ℕ → ℕ → Exit
exit_of page n = cond (takes_literal n) (by_literal n (word_at page n)) (direct n)

-- a terminator keeps its place at an exit, any other exit moves on
unfoldable pub served_by : Ending → Exit → Record → ℕ → Outcome → Effect
served_by ending.GoesOn exit r next o = end_at goes_on r next o
served_by ending.Exit exit r next o = end_at (exits exit) r next o
served_by ending.LastExit exit r next o = end_at (exits exit) r r.place o
served_by ending.Bad exit r next o = unlisted

unfoldable pub served : Setting → Record → List ℕ → ℕ → Effect
served setting r ram n =
    let page = setting.program.page in
    served_by (ending_in setting.program n) (exit_of page n) r (following page r.place)
    (service_does (length setting.external) setting.window (service_of page n) r ram)

-- ---- every instruction

-- a data-processing instruction reads registers, SP and flags
abbrev pub writes_of : Operation → Record → Writes
writes_of operation r =
    keeping r (computed operation r.regs r.sp r.flags).register (computed operation r.regs r.sp r.flags).flags

unfoldable pub effect_of : Setting → Record → List ℕ → Instruction → Effect
effect_of setting r ram (Data operation) =
    end_at goes_on r (following setting.program.page r.place) (does (writes_of operation r) ram)
effect_of setting r ram (Memory access) =
    let page = setting.program.page in
    end_at goes_on r (following page r.place) (accessed page setting.external setting.window access r ram)
effect_of setting r ram (Cbz imm6 n) = cbz setting.program.page imm6 n r ram
effect_of setting r ram (Cbnz imm6 n) = cbnz setting.program.page imm6 n r ram
effect_of setting r ram (Bcc condition imm8) = bcc setting.program.page condition imm8 r ram
effect_of setting r ram (B imm11) = b imm11 r ram
effect_of setting r ram (Service n) = served setting r ram n
effect_of setting r ram Unlisted = unlisted

unfoldable pub instruction_of : Setting → Record → List ℕ → Effect
instruction_of setting r ram = effect_of setting r ram (instruction_at setting.program r.place)
