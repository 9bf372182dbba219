-- What a set of syscalls that never return changes of endings.
use Prim.Native.Nat.{ℕ}
use mathlib.Core.Bool.{Bool, true, false, cond}
use mathlib.Core.Logic.{◌⊎◌, inl, inr, ⊎_elim}
use mathlib.Core.Path.{◌≡◌, refl}
use Rattle.platform.specs.Platforms.{never_returns}
use Rattle.ending.specs.Endings.{ending_of, last_syscall, ending_on}
use Rattle.ending.specs.declared.Ending.TheVariants.{Exit, LastExit}
use Rattle.literal.specs.declared.Service.{Service}
use Rattle.literal.specs.declared.Service.TheVariants.{Return, Call, TailCall, Syscall, TailSyscall, LongBranch, Preload, SetBase, StoreAtSp, LoadAtSp, LowerSp, DirectSyscall, Validate, Breakpoint, CallRegister, TailCallRegister, Bad}

-- no service but a direct syscall is looked up in it
pub only_direct : (s : Service) → ((n : ℕ) × (s ≡ DirectSyscall n)) ⊎ ((set : ℕ) → last_syscall set s ≡ false)
only_direct Return = inr (λ set. refl)
only_direct (Call a n) = inr (λ set. refl)
only_direct (TailCall a n) = inr (λ set. refl)
only_direct (Syscall n i) = inr (λ set. refl)
only_direct (TailSyscall n i) = inr (λ set. refl)
only_direct (LongBranch a) = inr (λ set. refl)
only_direct Preload = inr (λ set. refl)
only_direct (SetBase a) = inr (λ set. refl)
only_direct (StoreAtSp t a) = inr (λ set. refl)
only_direct (LoadAtSp t a) = inr (λ set. refl)
only_direct (LowerSp a) = inr (λ set. refl)
only_direct (DirectSyscall n) = inl (n, refl)
only_direct (Validate n) = inr (λ set. refl)
only_direct Breakpoint = inr (λ set. refl)
only_direct (CallRegister n) = inr (λ set. refl)
only_direct (TailCallRegister n) = inr (λ set. refl)
only_direct Bad = inr (λ set. refl)

-- it makes terminators of exits, and changes nothing else
pub set_changes : (set : ℕ) (s : Service) → (ending_on set s ≡ ending_of s) ⊎ ((ending_of s ≡ Exit) × (ending_on set s ≡ LastExit))
set_changes set s = ⊎_elim (λ d. rw d.1 (go (never_returns set d.0))) (λ h. inl (rw (h set))) (only_direct s)
  where
    go : (last : Bool) → (cond last LastExit Exit ≡ Exit) ⊎ ((Exit ≡ Exit) × (cond last LastExit Exit ≡ LastExit))
    go true = inr (refl, refl)
    go false = inl refl
