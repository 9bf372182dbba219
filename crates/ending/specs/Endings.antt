-- How the flow goes on at a service: exits and terminators.
use Rattle.std.specs.Prelude.{ℕ, Bool, false, cond}
use Rattle.platform.specs.Platforms.{never_returns}
use Rattle.platform.specs.Programs.{Program}
use Rattle.ending.specs.declared.Ending.{Ending}
use Rattle.ending.specs.declared.Ending.TheVariants.{GoesOn, Exit, LastExit}
use Rattle.ending.specs.declared.Ending.TheVariants as ending
use Rattle.literal.specs.declared.Service.{Service}
use Rattle.literal.specs.declared.Service.TheVariants.{Return, Call, TailCall, Syscall, TailSyscall, LongBranch, Preload, SetBase, StoreAtSp, LoadAtSp, LowerSp, DirectSyscall, Validate, Breakpoint, CallRegister, TailCallRegister, Bad}
use Rattle.service.specs.Services.{service_of}

-- ---- the build paper's exits and terminators: every service that is a terminator is an exit

abbrev pub ending_of : Service → Ending
ending_of Return = LastExit
ending_of (Call a n) = Exit
ending_of (TailCall a n) = LastExit
ending_of (Syscall n i) = Exit
ending_of (TailSyscall n i) = LastExit
ending_of (LongBranch a) = LastExit
ending_of Preload = GoesOn
ending_of (SetBase a) = GoesOn
ending_of (StoreAtSp t a) = GoesOn
ending_of (LoadAtSp t a) = GoesOn
ending_of (LowerSp a) = GoesOn
ending_of (DirectSyscall n) = Exit
ending_of (Validate n) = GoesOn
ending_of Breakpoint = Exit
ending_of (CallRegister n) = Exit
ending_of (TailCallRegister n) = LastExit
ending_of Bad = ending.Bad

-- ---- in a program

-- a direct syscall of the set of those that never return, and no other service
abbrev pub last_syscall : ℕ → Service → Bool
last_syscall set Return = false
last_syscall set (Call a n) = false
last_syscall set (TailCall a n) = false
last_syscall set (Syscall n i) = false
last_syscall set (TailSyscall n i) = false
last_syscall set (LongBranch a) = false
last_syscall set Preload = false
last_syscall set (SetBase a) = false
last_syscall set (StoreAtSp t a) = false
last_syscall set (LoadAtSp t a) = false
last_syscall set (LowerSp a) = false
last_syscall set (DirectSyscall n) = never_returns set n
last_syscall set (Validate n) = false
last_syscall set Breakpoint = false
last_syscall set (CallRegister n) = false
last_syscall set (TailCallRegister n) = false
last_syscall set Bad = false

-- over the table above, such a syscall is a terminator, and an exit as before
abbrev pub ending_on : ℕ → Service → Ending
ending_on set s = cond (last_syscall set s) LastExit (ending_of s)

-- of the service with a low byte
abbrev pub ending_in : Program → ℕ → Ending
ending_in program n = ending_on program.never_return (service_of program.page n)
