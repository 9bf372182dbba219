-- Loads and stores by two windows and in two related RAMs come to the same.
use Rattle.std.specs.Prelude.{Result, Err}
use Prim.Native.Nat.{ℕ, ◌+◌, ◌-◌, ◌*◌, ◌/◌}
use mathlib.Core.Bool.{Bool, true, false, cond}
use mathlib.Core.List.{List}
use mathlib.Core.Path.{◌≡◌, refl, ap}
use lib.Dec.{ltb, eqb}
use Rattle.endian.specs.LittleEndian.{width_of, store_le}
use Rattle.endian.specs.declared.Size.{Size}
use Rattle.endian.specs.declared.Size.TheVariants.{Byte, Halfword, Word}
use Rattle.page.specs.Page.{bundles_in}
use Rattle.isa.specs.declared.Access.{Access}
use Rattle.isa.specs.declared.Access.TheVariants.{LdrLit, StrSp, LdrSp, Str, Strb, Strh, Ldr, Ldrb, Ldrh, Ldrsb, Ldrsh}
use Rattle.window.specs.declared.Window.{Window}
use Rattle.memory.specs.Faults.{fault_number}
use Rattle.memory.specs.Memory.{ram_loaded, after_if, ram_stored, ram_after, stored_by, after_store_by}
use Rattle.memory.specs.declared.Fault.{Fault}
use Rattle.memory.specs.declared.Fault.TheVariants.{NoBase, PastRam, PastStack, LowStack, PastPage}
use Rattle.memory.proofs.Alike.{Alike, both, fault, alike_map, Related, BothPass, BothLoaded, LoadsAlike, same_loads, signed_loads, accesses, ram_loads, base_loads}
use Rattle.state.specs.Record.{register}
use Rattle.state.specs.declared.Base.{Base}
use Rattle.state.specs.declared.Base.TheVariants.{Nothing, Ram, External}
use Rattle.state.specs.declared.Record.{Record}
use Rattle.writing.specs.Writes.{writes_nothing}
use Rattle.writing.specs.declared.Writes.{Writes}
use Rattle.access.specs.Outcomes.{Outcome, does, fails, load_to, store_with}
use Rattle.access.specs.LoadsAndStores.{stack_loaded, stack_stored, after_stack_store, store_at, literal_loaded, store_base, loaded_base, accessed}

-- the same is written, and the RAMs are related
abbrev pub BothDone : (List ℕ → List ℕ → Type 0) → Outcome → Outcome → Type 0
BothDone S x y = (written : Writes) × (a : List ℕ) × (b : List ℕ) × (x ≡ does written a) × (y ≡ does written b) × S a b

abbrev pub OutcomesAlike : Window → Window → (List ℕ → List ℕ → Type 0) → Outcome → Outcome → Type 0
OutcomesAlike w v S = Alike w v fails (BothDone S)

module _ (w v : Window) (S : List ℕ → List ℕ → Type 0) (h : Related w v S) (r : Record) (a b : List ℕ) (s : S a b) where
  abbrev Same : Outcome → Outcome → Type 0
  Same = OutcomesAlike w v S

  -- what leaves RAM as it was
  pub still : (written : Writes) → Same (does written a) (does written b)
  still written = both (written, a, b, refl, refl, s)

  -- ---- loads

  load_alike : (t : ℕ) (x y : Result ℕ Fault) → LoadsAlike w v x y → Same (load_to r a t x) (load_to r b t y)
  unfolding load_to
  load_alike t =
      alike_map w v Err fails BothLoaded (BothDone S) (load_to r a t) (load_to r b t) (λ e. refl) (λ e. refl)
      (λ x y l. (_, a, b, ap (load_to r a t) l.1, ap (load_to r b t) l.2, s))

  stack_loads : (address : ℕ) → LoadsAlike w v (stack_loaded w a address) (stack_loaded v b address)
  unfolding stack_loaded
  stack_loads address = go (ltb address 0x10000)
    where
      loaded-by : Window → List ℕ → Bool → Result ℕ Fault
      loaded-by window ram low = cond low (Err LowStack) (ram_loaded window ram (address - 0x10000) Word PastStack)

      go : (low : Bool) → LoadsAlike w v (loaded-by w a low) (loaded-by v b low)
      go true = fault LowStack refl refl refl
      go false = ram_loads w v S h a b s (address - 0x10000) Word PastStack refl

  pub stack_load : (t address : ℕ) → Same (load_to r a t (stack_loaded w a address)) (load_to r b t (stack_loaded v b address))
  stack_load t address = load_alike t _ _ (stack_loads address)

  literal_loads : (page : List ℕ) (place imm8 : ℕ) → LoadsAlike w v (literal_loaded page place imm8) (literal_loaded page place imm8)
  unfolding literal_loaded
  literal_loads page place imm8 = same_loads w v (ltb (place / 2 + 1 + imm8) (bundles_in page)) _ PastPage refl

  -- ---- stores

  ram_stores : (at : ℕ) (size : Size) (past : Fault) (x : ℕ) → eqb (fault_number past) 7 ≡ false
      → Same (store_with r (ram_stored w at size past) (ram_after w a at size past x)) (store_with r (ram_stored v at size past) (ram_after v b at size past x))
  unfolding ram_after store_with
  ram_stores at size past x n =
      alike_map w v Err fails (BothPass w at bytes) (BothDone S) (left a) (left b) (λ e. refl) (λ e. refl)
      (λ p q d. (writes_nothing r, _, _, ap (left a) d.0, ap (left b) d.1, h.writes a b s at bytes x d.2))
      _ _ (accesses w v S h at bytes past n)
    where
      bytes : ℕ
      bytes = width_of size

      left : List ℕ → Result Unit Fault → Outcome
      left ram t = store_with r t (after_if t (store_le bytes ram at x) ram)

  pub stack_store : (t address : ℕ) → Same (store_at r w a t address) (store_at r v b t address)
  unfolding stack_stored after_stack_store store_with
  stack_store t address = go (ltb address 0x10000)
    where
      stored-by : Window → List ℕ → Bool → Outcome
      stored-by window ram low =
          store_with r (cond low (Err LowStack) (ram_stored window (address - 0x10000) Word PastStack))
          (cond low ram (ram_after window ram (address - 0x10000) Word PastStack (register r t)))

      go : (low : Bool) → Same (stored-by w a low) (stored-by v b low)
      go true = fault LowStack refl refl refl
      go false = ram_stores (address - 0x10000) Word PastStack (register r t) refl

  base_stores : (base : Base) (size : Size) (imm12 x : ℕ)
      → Same (store_with r (stored_by base w imm12 size) (after_store_by base w a imm12 size x))
      (store_with r (stored_by base v imm12 size) (after_store_by base v b imm12 size x))
  unfolding stored_by after_store_by store_with
  base_stores Nothing size imm12 x = fault NoBase refl refl refl
  base_stores (Ram offset) size imm12 x = ram_stores (offset + imm12) size PastRam x refl
  base_stores (External offset) size imm12 x = fault NoBase refl refl refl

  -- ---- every access

  base_store : (size : Size) (t imm12 : ℕ) → Same (store_base r w a size t imm12) (store_base r v b size t imm12)
  base_store size t imm12 = base_stores r.base size imm12 (register r t)

  module _ (page external : List ℕ) where
    base-load : (size : Size) (n imm12 : ℕ) → LoadsAlike w v (loaded_base r w a external size n imm12) (loaded_base r v b external size n imm12)
    base-load size n imm12 = base_loads w v S h a b s r.base (eqb n 9) external imm12 size

    pub accesses_alike : (access : Access) → Same (accessed page external w access r a) (accessed page external v access r b)
    unfolding accessed
    accesses_alike (LdrLit t imm8) = load_alike t _ _ (literal_loads page r.place imm8)
    accesses_alike (StrSp t imm8) = stack_store t (r.sp + 4 * imm8)
    accesses_alike (LdrSp t imm8) = stack_load t (r.sp + 4 * imm8)
    accesses_alike (Str t imm12) = base_store Word t imm12
    accesses_alike (Strb t imm12) = base_store Byte t imm12
    accesses_alike (Strh t imm12) = base_store Halfword t imm12
    accesses_alike (Ldr n t imm12) = load_alike t _ _ (base-load Word n imm12)
    accesses_alike (Ldrb n t imm12) = load_alike t _ _ (base-load Byte n imm12)
    accesses_alike (Ldrh n t imm12) = load_alike t _ _ (base-load Halfword n imm12)
    accesses_alike (Ldrsb n t imm12) = load_alike t _ _ (signed_loads w v Byte _ _ (base-load Byte n imm12))
    accesses_alike (Ldrsh n t imm12) = load_alike t _ _ (signed_loads w v Halfword _ _ (base-load Halfword n imm12))
