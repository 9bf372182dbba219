-- A service exit in numbers: what the host is to do, by the low byte and the literal that a stop carries.
use Rattle.std.specs.Prelude.{ℕ, cond, leb}
use Rattle.literal.specs.Literals.{literal_of}
use Rattle.service.specs.Services.{by_low_byte}
use Rattle.literal.specs.declared.Service.{Service}
use Rattle.literal.specs.declared.Service.TheVariants.{Return, Call, TailCall, Syscall, TailSyscall, LongBranch, Preload, SetBase, StoreAtSp, LoadAtSp, LowerSp, DirectSyscall, Validate, Breakpoint, CallRegister, TailCallRegister, Bad}
use Rattle.crossing.specs.declared.ExitNumbers.{ExitNumbers}

-- a kind that carries nothing; 0 is no exit
abbrev pub bare_exit : ℕ → ExitNumbers
bare_exit kind = record { kind = kind; number = 0; immediate = 0; address = 0; words = 0 }

abbrev pub exit_to : ℕ → ℕ → ℕ → ExitNumbers
exit_to kind address words = record { kind = kind; number = 0; immediate = 0; address = address; words = words }

-- the number is a syscall's or a register's
abbrev pub exit_with : ℕ → ℕ → ℕ → ExitNumbers
exit_with kind number immediate = record { kind = kind; number = number; immediate = immediate; address = 0; words = 0 }

abbrev pub exit_numbers : Service → ExitNumbers
exit_numbers Return = bare_exit 1
exit_numbers (Call address words) = exit_to 2 address words
exit_numbers (TailCall address words) = exit_to 3 address words
exit_numbers (Syscall number immediate) = exit_with 4 number immediate
exit_numbers (TailSyscall number immediate) = exit_with 5 number immediate
exit_numbers (LongBranch address) = exit_to 6 address 0
exit_numbers Preload = bare_exit 0
exit_numbers (SetBase a) = bare_exit 0
exit_numbers (StoreAtSp t a) = bare_exit 0
exit_numbers (LoadAtSp t a) = bare_exit 0
exit_numbers (LowerSp a) = bare_exit 0
exit_numbers (DirectSyscall number) = exit_with 7 number 0
exit_numbers (Validate n) = bare_exit 0
exit_numbers Breakpoint = bare_exit 8
exit_numbers (CallRegister register) = exit_with 9 register 0
exit_numbers (TailCallRegister register) = exit_with 10 register 0
exit_numbers Bad = bare_exit 0

-- the literal counts for 01-7F only; a number above FF is no low byte
abbrev pub decoded_exit : ℕ → ℕ → ExitNumbers
decoded_exit low literal = cond (leb low 0xFF) (exit_numbers (by_low_byte low (literal_of literal))) (bare_exit 0)
