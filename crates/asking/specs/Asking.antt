-- What a service asks of an image: a call, a tail call or a return between its pages. A lone page leaves these to the host.
use Rattle.std.specs.Prelude.{ℕ, List}
use Rattle.isa.specs.declared.Instruction.{Instruction}
use Rattle.isa.specs.declared.Instruction.TheVariants as instruction
use Rattle.literal.specs.declared.Service.{Service}
use Rattle.literal.specs.declared.Service.TheVariants.{Return, Call, TailCall, Syscall, TailSyscall, LongBranch, Preload, SetBase, StoreAtSp, LoadAtSp, LowerSp, DirectSyscall, Validate, Breakpoint, CallRegister, TailCallRegister, Bad}
use Rattle.page.specs.Page.{word_at}
use Rattle.service.specs.Services.{service_of}
use Rattle.state.specs.Record.{register_in}
use Rattle.asking.specs.declared.Asked.{Asked}
use Rattle.asking.specs.declared.Asked.TheVariants.{NoTransfer}
use Rattle.asking.specs.declared.Asked.TheVariants as asked

-- the word of a call is the literal, or the register of F0 to FF
unfoldable pub asked_by : Service → ℕ → List ℕ → Asked
asked_by Return literal regs = asked.Return
asked_by (Call a n) literal regs = asked.Call literal
asked_by (TailCall a n) literal regs = asked.TailCall literal
asked_by (Syscall n i) literal regs = NoTransfer
asked_by (TailSyscall n i) literal regs = NoTransfer
asked_by (LongBranch a) literal regs = NoTransfer
asked_by Preload literal regs = NoTransfer
asked_by (SetBase a) literal regs = NoTransfer
asked_by (StoreAtSp t a) literal regs = NoTransfer
asked_by (LoadAtSp t a) literal regs = NoTransfer
asked_by (LowerSp a) literal regs = NoTransfer
asked_by (DirectSyscall n) literal regs = NoTransfer
asked_by (Validate n) literal regs = NoTransfer
asked_by Breakpoint literal regs = NoTransfer
asked_by (CallRegister n) literal regs = asked.Call (register_in regs n)
asked_by (TailCallRegister n) literal regs = asked.TailCall (register_in regs n)
asked_by Bad literal regs = NoTransfer

-- no other instruction asks
unfoldable pub asked_in : List ℕ → List ℕ → Instruction → Asked
asked_in page regs (instruction.Data operation) = NoTransfer
asked_in page regs (instruction.Memory access) = NoTransfer
asked_in page regs (instruction.Cbz imm6 n) = NoTransfer
asked_in page regs (instruction.Cbnz imm6 n) = NoTransfer
asked_in page regs (instruction.Bcc condition imm8) = NoTransfer
asked_in page regs (instruction.B imm11) = NoTransfer
asked_in page regs (instruction.Service n) = asked_by (service_of page n) (word_at page n) regs
asked_in page regs instruction.Unlisted = NoTransfer
