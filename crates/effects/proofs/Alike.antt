-- Services by two windows and in two related RAMs come to the same.
use Prim.Native.Nat.{ℕ, ◌+◌, ◌-◌, ◌*◌}
use mathlib.Core.Bool.{Bool, true, false, cond}
use mathlib.Core.List.{List}
use mathlib.Core.Path.{refl, ap}
use lib.Dec.{ltb}
use Rattle.literal.specs.declared.Service.{Service}
use Rattle.literal.specs.declared.Service.TheVariants.{Return, Call, TailCall, Syscall, TailSyscall, LongBranch, Preload, SetBase, StoreAtSp, LoadAtSp, LowerSp, DirectSyscall, Validate, Breakpoint, CallRegister, TailCallRegister, Bad}
use Rattle.window.specs.declared.Window.{Window}
use Rattle.memory.specs.declared.Fault.TheVariants.{LowStack}
use Rattle.memory.proofs.Alike.{fault, alike_map, Related}
use Rattle.state.specs.declared.Record.{Record}
use Rattle.writing.specs.Writes.{writes_nothing, writing_sp}
use Rattle.access.specs.Outcomes.{Outcome, does, fails}
use Rattle.access.proofs.Alike.{BothDone, OutcomesAlike, still, stack_load, stack_store}
use Rattle.effects.specs.ServiceEffects.{leaves_none, lower_sp, service_does}

module _ (w v : Window) (S : List ℕ → List ℕ → Type 0) (h : Related w v S) (r : Record) (a b : List ℕ) (s : S a b) where
  abbrev Same : Outcome → Outcome → Type 0
  Same = OutcomesAlike w v S

  none_after : (x y : Outcome) → Same x y → Same (leaves_none x) (leaves_none y)
  unfolding leaves_none
  none_after =
      alike_map w v fails fails (BothDone S) (BothDone S) leaves_none leaves_none (λ e. refl) (λ e. refl)
      (λ x y d. (_, d.1, d.2, ap leaves_none d.3, ap leaves_none d.4, d.5))

  only_none : Same (leaves_none (does (writes_nothing r) a)) (leaves_none (does (writes_nothing r) b))
  only_none = none_after _ _ (still w v S h r a b s (writes_nothing r))

  lower_alike : (words : ℕ) → Same (lower_sp r a words) (lower_sp r b words)
  unfolding lower_sp
  lower_alike words = go (ltb r.sp (0x10000 + 4 * words))
    where
      lowered : List ℕ → Bool → Outcome
      lowered ram low = cond low (fails LowStack) (does (writing_sp (writes_nothing r) (r.sp - 4 * words)) ram)

      go : (low : Bool) → Same (lowered a low) (lowered b low)
      go true = fault LowStack refl refl refl
      go false = still w v S h r a b s _

  pub services_alike : (external : ℕ) (x : Service) → Same (service_does external w x r a) (service_does external v x r b)
  unfolding service_does
  services_alike external Return = only_none
  services_alike external (Call address words) = only_none
  services_alike external (TailCall address words) = only_none
  services_alike external (Syscall n i) = only_none
  services_alike external (TailSyscall n i) = only_none
  services_alike external (LongBranch address) = only_none
  services_alike external Preload = only_none
  services_alike external (SetBase address) = still w v S h r a b s _
  services_alike external (StoreAtSp t offset) = none_after _ _ (stack_store w v S h r a b s t (r.sp + offset))
  services_alike external (LoadAtSp t offset) = none_after _ _ (stack_load w v S h r a b s t (r.sp + offset))
  services_alike external (LowerSp words) = none_after _ _ (lower_alike words)
  services_alike external (DirectSyscall n) = only_none
  services_alike external (Validate n) = still w v S h r a b s _
  services_alike external Breakpoint = only_none
  services_alike external (CallRegister n) = only_none
  services_alike external (TailCallRegister n) = only_none
  services_alike external Bad = only_none
