-- Services: what each does to registers, SP, base and RAM.
use Rattle.std.specs.Prelude.{ℕ, ◌+◌, ◌-◌, ◌*◌, cond, List, ltb, Result, Ok, Err}
use Rattle.literal.specs.declared.Service.{Service}
use Rattle.literal.specs.declared.Service.TheVariants.{Return, Call, TailCall, Syscall, TailSyscall, LongBranch, Preload, SetBase, StoreAtSp, LoadAtSp, LowerSp, DirectSyscall, Validate, Breakpoint, CallRegister, TailCallRegister, Bad}
use Rattle.window.specs.declared.Window.{Window}
use Rattle.memory.specs.declared.Fault.{Fault}
use Rattle.memory.specs.declared.Fault.TheVariants.{LowStack}
use Rattle.state.specs.Record.{register}
use Rattle.writing.specs.Writes.{writes_nothing, writing_sp, writing_base}
use Rattle.state.specs.Validation.{validated}
use Rattle.state.specs.declared.Base.TheVariants.{Nothing}
use Rattle.state.specs.declared.Record.{Record}
use Rattle.writing.specs.declared.Writes.{Writes}
use Rattle.access.specs.Outcomes.{Outcome, does, fails}
use Rattle.access.specs.LoadsAndStores.{load_at, store_at}

-- the base is none afterwards
unfoldable pub leaves_none : Outcome → Outcome
leaves_none (does w ram) = does (writing_base w Nothing) ram
leaves_none (fails fault) = fails fault

-- SP less 4 bytes a word; below 0x10000 is fault 5
unfoldable pub lower_sp : Record → List ℕ → ℕ → Outcome
lower_sp r ram words = cond (ltb r.sp (0x10000 + 4 * words)) (fails LowStack) (does (writing_sp (writes_nothing r) (r.sp - 4 * words)) ram)

-- base = validate(v)
abbrev pub set_base : Record → List ℕ → ℕ → ℕ → Outcome
set_base r ram v external = does (writing_base (writes_nothing r) (validated v external)) ram

-- every service except setting the base leaves the base none; an exit does nothing else here
unfoldable pub service_does : ℕ → Window → Service → Record → List ℕ → Outcome
service_does external window Return r ram = leaves_none (does (writes_nothing r) ram)
service_does external window (Call a n) r ram = leaves_none (does (writes_nothing r) ram)
service_does external window (TailCall a n) r ram = leaves_none (does (writes_nothing r) ram)
service_does external window (Syscall n i) r ram = leaves_none (does (writes_nothing r) ram)
service_does external window (TailSyscall n i) r ram = leaves_none (does (writes_nothing r) ram)
service_does external window (LongBranch a) r ram = leaves_none (does (writes_nothing r) ram)
service_does external window Preload r ram = leaves_none (does (writes_nothing r) ram)
service_does external window (SetBase a) r ram = set_base r ram a external
service_does external window (StoreAtSp t a) r ram = leaves_none (store_at r window ram t (r.sp + a))
service_does external window (LoadAtSp t a) r ram = leaves_none (load_at r window ram t (r.sp + a))
service_does external window (LowerSp words) r ram = leaves_none (lower_sp r ram words)
service_does external window (DirectSyscall n) r ram = leaves_none (does (writes_nothing r) ram)
service_does external window (Validate n) r ram = set_base r ram (register r n) external
service_does external window Breakpoint r ram = leaves_none (does (writes_nothing r) ram)
service_does external window (CallRegister n) r ram = leaves_none (does (writes_nothing r) ram)
service_does external window (TailCallRegister n) r ram = leaves_none (does (writes_nothing r) ram)
service_does external window Bad r ram = leaves_none (does (writes_nothing r) ram)

-- ---- what the code gives back where the base is none afterwards

unfoldable pub none_did : Result Writes Fault → Result Writes Fault
none_did (Ok w) = Ok (writing_base w Nothing)
none_did (Err fault) = Err fault
