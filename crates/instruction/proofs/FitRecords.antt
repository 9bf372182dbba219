-- What an instruction leaves is fit: records by their SP and base, and RAM by its length.
use Rattle.memory.specs.declared.Fault.{Fault}
use Rattle.std.specs.Prelude.{Result, Ok, Err}
use Prim.Native.Nat.{ℕ, ◌+◌, ◌-◌, ◌*◌, ◌%◌, ◌^◌, ◌≤◌}
use native.Mathlib.Omega.{arith}
use mathlib.Core.Bool.{Bool, true, false, ◌&&◌, cond}
use mathlib.Core.List.{List}
use mathlib.Core.Path.{◌≡◌, refl, ◌∙◌}
use lib.Dec.{eqb, ltb, leb}
use lib.ListN.{length}
use borrow.Author.Tests.{ltb-false, lt-ltb, leb-true, le-leb, eqb-true, eq-eqb}
use Rattle.laws.proofs.Tests.{both}
use Rattle.endian.specs.LittleEndian.{width_of, store_le}
use Rattle.endian.proofs.Theorems.{length_store}
use Rattle.endian.specs.declared.Size.{Size}
use Rattle.endian.specs.declared.Size.TheVariants.{Byte, Halfword, Word}
use Rattle.isa.specs.declared.Access.{Access}
use Rattle.isa.specs.declared.Access.TheVariants.{LdrLit, StrSp, LdrSp, Str, Strb, Strh, Ldr, Ldrb, Ldrh, Ldrsb, Ldrsh}
use Rattle.literal.specs.declared.Service.{Service}
use Rattle.literal.specs.declared.Service.TheVariants.{Return, Call, TailCall, Syscall, TailSyscall, LongBranch, Preload, SetBase, StoreAtSp, LoadAtSp, LowerSp, DirectSyscall, Validate, Breakpoint, CallRegister, TailCallRegister, Bad}
use Rattle.window.specs.declared.Window.{Window}
use Rattle.memory.specs.Memory.{stored_by, after_store_by, signed_loaded}
use Rattle.memory.proofs.Ram.{base_keeps}
use Rattle.memory.specs.declared.Fault.TheVariants.{LowStack}
use Rattle.state.specs.FitRecord.{sp_fits, base_fits}
use Rattle.state.specs.Record.{register}
use Rattle.writing.specs.Writes.{writes_nothing, writing_sp, writing_base}
use Rattle.state.specs.Validation.{validated}
use Rattle.state.specs.declared.Base.{Base}
use Rattle.state.specs.declared.Base.TheVariants.{Nothing, Ram, External}
use Rattle.state.specs.declared.Record.{Record}
use Rattle.writing.specs.declared.Writes.{Writes}
use Rattle.access.specs.Outcomes.{Outcome, does, fails, load_to, store_with}
use Rattle.access.specs.LoadsAndStores.{stack_loaded, stack_stored, after_stack_store, store_at, literal_loaded, store_base, loaded_base, accessed}
use Rattle.access.proofs.Theorems.{stack_keeps}
use Rattle.effects.specs.ServiceEffects.{leaves_none, lower_sp, set_base, service_does}

-- ---- what is written

-- SP and the base are as a fit record's
abbrev pub FitWrites : ℕ → Writes → Type 0
FitWrites external w = (sp_fits w.sp && base_fits w.base external) ≡ true

base_fits_lem : (w : Writes) (b : Base) (external : ℕ) → base_fits b external ≡ true → FitWrites external w
    → FitWrites external (writing_base w b)
base_fits_lem w b external e f = rw (both (sp_fits w.sp) (base_fits w.base external) f).0 e

validated_fits : (v external : ℕ) → base_fits (validated v external) external ≡ true
unfolding validated
validated_fits v external = go (ltb v 0x80000000) (ltb (v - 0x80000000) external) refl
  where
    go : (s t : Bool) → ltb (v - 0x80000000) external ≡ t
        → base_fits (cond s (Ram ((v + 2 ^ 20 - 0x10000) % 2 ^ 20)) (cond t (External (v - 0x80000000)) Nothing)) external ≡ true
    go true t e = rw (lt-ltb ((v + 2 ^ 20 - 0x10000) % 2 ^ 20) (2 ^ 20) (omega arith))
    go false true e = e
    go false false e = refl

-- SP less some words, if it doesn't fall below 0x10000
less_fits : (sp words : ℕ) → 0x10000 + 4 * words ≤ sp → sp_fits sp ≡ true → sp_fits (sp - 4 * words) ≡ true
less_fits sp words l h =
    let parts = both (leb 0x10000 sp && leb sp 0x18000) (eqb (sp % 4) 0) h in
    let top = leb-true sp 0x18000 (both (leb 0x10000 sp) (leb sp 0x18000) parts.0).1 in
    let aligned = eqb-true (sp % 4) 0 parts.1 in
    rw (le-leb 0x10000 (sp - 4 * words) (omega arith), le-leb (sp - 4 * words) 0x18000 (omega arith))
    (eq-eqb ((sp - 4 * words) % 4) 0 (omega arith))

lower_fits : (w : Writes) (words external : ℕ) → 0x10000 + 4 * words ≤ w.sp → FitWrites external w
    → FitWrites external (writing_sp w (w.sp - 4 * words))
lower_fits w words external l f =
    let parts = both (sp_fits w.sp) (base_fits w.base external) f in
    rw (less_fits w.sp words l parts.0) parts.1

-- ---- outcomes

-- what is done leaves a fit record, since nothing else of it is tested, and RAM of its size
abbrev pub Leaves : ℕ → Outcome → Type 0
Leaves external (does w ram) = FitWrites external w × (length ram ≡ 32768)
Leaves external (fails fault) = Unit {0}

none_after : (external : ℕ) (o : Outcome) → Leaves external o → Leaves external (leaves_none o)
unfolding leaves_none
none_after external (does w ram) h = (base_fits_lem w Nothing external refl h.0, h.1)
none_after external (fails fault) h = tt

module _ (external : ℕ) (r : Record) (window : Window) (ram : List ℕ) (f : FitWrites external (writes_nothing r)) (e : length ram ≡ 32768) where
  load_leaves : (t : ℕ) (l : Result ℕ Fault) → Leaves external (load_to r ram t l)
  unfolding load_to
  load_leaves t (Ok x) = (f, e)
  load_leaves t (Err fault) = tt

  store_leaves : (s : Result Unit Fault) (after : List ℕ) → length after ≡ 32768 → Leaves external (store_with r s after)
  unfolding store_with
  store_leaves (Ok t) after l = (f, l)
  store_leaves (Err fault) after l = tt

  -- RAM keeps its length
  same_length : (x at : ℕ) (size : Size) → length (store_le (width_of size) ram at x) ≡ 32768
  same_length x at size = length_store (width_of size) ram at x ∙ e

  stack_store : (t address : ℕ) → Leaves external (store_at r window ram t address)
  stack_store t address =
      store_leaves (stack_stored window address) (after_stack_store window ram address (register r t))
      (stack_keeps (λ after. length after ≡ 32768) window ram (register r t) e (same_length (register r t)) address)

  base_store : (size : Size) (t imm12 : ℕ) → Leaves external (store_base r window ram size t imm12)
  base_store size t imm12 =
      store_leaves (stored_by r.base window imm12 size) (after_store_by r.base window ram imm12 size (register r t))
      (base_keeps (λ after. length after ≡ 32768) window ram (register r t) e (same_length (register r t)) r.base imm12 size)

  pub accessed_leaves : (page bytes : List ℕ) (access : Access) → Leaves external (accessed page bytes window access r ram)
  unfolding accessed
  accessed_leaves page bytes (LdrLit t imm8) = load_leaves t (literal_loaded page r.place imm8)
  accessed_leaves page bytes (StrSp t imm8) = stack_store t (r.sp + 4 * imm8)
  accessed_leaves page bytes (LdrSp t imm8) = load_leaves t (stack_loaded window ram (r.sp + 4 * imm8))
  accessed_leaves page bytes (Str t imm12) = base_store Word t imm12
  accessed_leaves page bytes (Strb t imm12) = base_store Byte t imm12
  accessed_leaves page bytes (Strh t imm12) = base_store Halfword t imm12
  accessed_leaves page bytes (Ldr n t imm12) = load_leaves t (loaded_base r window ram bytes Word n imm12)
  accessed_leaves page bytes (Ldrb n t imm12) = load_leaves t (loaded_base r window ram bytes Byte n imm12)
  accessed_leaves page bytes (Ldrh n t imm12) = load_leaves t (loaded_base r window ram bytes Halfword n imm12)
  accessed_leaves page bytes (Ldrsb n t imm12) = load_leaves t (signed_loaded Byte (loaded_base r window ram bytes Byte n imm12))
  accessed_leaves page bytes (Ldrsh n t imm12) = load_leaves t (signed_loaded Halfword (loaded_base r window ram bytes Halfword n imm12))

  -- ---- services

  none_leaves : Leaves external (leaves_none (does (writes_nothing r) ram))
  none_leaves = none_after external (does (writes_nothing r) ram) (f, e)

  base_leaves : (v : ℕ) → Leaves external (set_base r ram v external)
  base_leaves v = (base_fits_lem (writes_nothing r) (validated v external) external (validated_fits v external) f, e)

  lower_leaves : (words : ℕ) → Leaves external (lower_sp r ram words)
  unfolding lower_sp
  lower_leaves words = go (ltb r.sp (0x10000 + 4 * words)) refl
    where
      go : (t : Bool) → ltb r.sp (0x10000 + 4 * words) ≡ t
          → Leaves external (cond t (fails LowStack) (does (writing_sp (writes_nothing r) (r.sp - 4 * words)) ram))
      go true l = tt
      go false l = (lower_fits (writes_nothing r) words external (ltb-false r.sp (0x10000 + 4 * words) l) f, e)

  pub service_leaves : (s : Service) → Leaves external (service_does external window s r ram)
  unfolding service_does
  service_leaves Return = none_leaves
  service_leaves (Call a n) = none_leaves
  service_leaves (TailCall a n) = none_leaves
  service_leaves (Syscall n i) = none_leaves
  service_leaves (TailSyscall n i) = none_leaves
  service_leaves (LongBranch a) = none_leaves
  service_leaves Preload = none_leaves
  service_leaves (SetBase a) = base_leaves a
  service_leaves (StoreAtSp t a) = none_after external _ (stack_store t (r.sp + a))
  service_leaves (LoadAtSp t a) = none_after external _ (load_leaves t (stack_loaded window ram (r.sp + a)))
  service_leaves (LowerSp words) = none_after external _ (lower_leaves words)
  service_leaves (DirectSyscall n) = none_leaves
  service_leaves (Validate n) = base_leaves (register r n)
  service_leaves Breakpoint = none_leaves
  service_leaves (CallRegister n) = none_leaves
  service_leaves (TailCallRegister n) = none_leaves
  service_leaves Bad = none_leaves
