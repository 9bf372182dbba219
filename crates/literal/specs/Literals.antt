-- Services, and what a literal word means.
use Rattle.std.specs.Prelude.{ℕ, ◌+◌, ◌*◌, ◌/◌, ◌%◌, ◌^◌, Bool, cond, List, [], ◌∷◌, leb, get_or}
use Rattle.bits.specs.Fields.{bits, bit}
use Rattle.literal.specs.declared.Service.{Service}
use Rattle.literal.specs.declared.Service.TheVariants.{Call, TailCall, Syscall, TailSyscall, LongBranch, Preload, SetBase, StoreAtSp, LoadAtSp, LowerSp, Bad}

-- 0nnnnnnn aaaaaaaa aaaaaaaa aaaaaa..: the address that a call goes to, and the words that SP is to be lowered by
abbrev pub call_address : ℕ → ℕ
call_address w = 0x80000000 + 4 * bits w 23 2

abbrev pub call_words : ℕ → ℕ
call_words w = bits w 30 24

-- bit 31 clear, by the low bits: 00 call, 01 tail call, 1x bad
unfoldable pub call_of : ℕ → Service
call_of w = get_or (Call (call_address w) (call_words w) ∷ TailCall (call_address w) (call_words w) ∷ []) (bits w 1 0) Bad

-- 10nnnnnn nnnnnnnn iiiiiiii iiiiiii.: a syscall's number and immediate
abbrev pub syscall_number : ℕ → ℕ
syscall_number w = bits w 29 16

abbrev pub syscall_immediate : ℕ → ℕ
syscall_immediate w = bits w 15 1

-- top bits 10: a syscall by its number up to 8191; bit 0 set means tail
unfoldable pub syscall_of : ℕ → Service
syscall_of w =
    cond (leb (syscall_number w) 8191)
    (cond (bit w 0) (TailSyscall (syscall_number w) (syscall_immediate w)) (Syscall (syscall_number w) (syscall_immediate w)))
    Bad

-- top bits 110 or 111: operations 0 to 5 on a, the low 24 bits; for 111 the address is 0x80000000 + a; 3, 4 and 5 are bad there
abbrev pub operations : Bool → ℕ → List Service
operations external a =
    LongBranch (cond external 0x80000000 0 + a)
    ∷ Preload
    ∷ SetBase (cond external 0x80000000 0 + a)
    ∷ cond external Bad (LowerSp a)
    ∷ cond external Bad (StoreAtSp (a / 2 ^ 21) (a % 2 ^ 21))
    ∷ cond external Bad (LoadAtSp (a / 2 ^ 21) (a % 2 ^ 21))
    ∷ []

unfoldable pub address_operation_of : ℕ → Service
address_operation_of w = get_or (operations (bit w 29) (bits w 23 0)) (bits w 28 24) Bad

unfoldable pub literal_of : ℕ → Service
literal_of w = cond (bit w 31) (cond (bit w 30) (address_operation_of w) (syscall_of w)) (call_of w)
