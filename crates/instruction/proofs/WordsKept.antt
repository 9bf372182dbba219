-- From eight registers of 32 bits and RAM of bytes an instruction leaves such again, where the page and the external data are bytes.
use Rattle.std.specs.Prelude.{Option, Some, None, Result, Ok, Err}
use Prim.Native.Nat.{ℕ, ◌+◌, ◌-◌, ◌*◌, ◌/◌, ◌%◌, ◌^◌, ◌<◌}
use native.Mathlib.Omega.{arith}
use mathlib.Core.Bool.{Bool, true, false, cond}
use mathlib.Core.List.{List}
use mathlib.Core.Path.{◌≡◌, ◌∙◌}
use lib.Dec.{ltb, leb, eqb}
use lib.ListN.{length, drop, length-set}
use lib.Seq.{get_or-drop}
use Rattle.page.specs.Page.{bundles_in, halfword_at, word_at}
use Rattle.endian.specs.LittleEndian.{width_of, load_le, store_le}
use Rattle.endian.specs.declared.Size.{Size}
use Rattle.endian.specs.declared.Size.TheVariants.{Byte, Halfword, Word}
use Rattle.isa.specs.declared.Access.{Access}
use Rattle.isa.specs.declared.Access.TheVariants.{LdrLit, StrSp, LdrSp, Str, Strb, Strh, Ldr, Ldrb, Ldrh, Ldrsb, Ldrsh}
use Rattle.isa.specs.declared.Instruction.{Instruction}
use Rattle.isa.specs.declared.Instruction.TheVariants.{Data, Memory, Cbz, Cbnz, Bcc, B, Unlisted}
use Rattle.isa.specs.declared.Instruction.TheVariants as instruction
use Rattle.platform.specs.Programs.{Setting}
use Rattle.service.specs.Services.{service_of}
use Rattle.ending.specs.Endings.{ending_in}
use Rattle.ending.specs.declared.Ending.{Ending}
use Rattle.ending.specs.declared.Ending.TheVariants as ending
use Rattle.literal.specs.declared.Service.{Service}
use Rattle.literal.specs.declared.Service.TheVariants.{Return, Call, TailCall, Syscall, TailSyscall, LongBranch, Preload, SetBase, StoreAtSp, LoadAtSp, LowerSp, DirectSyscall, Validate, Breakpoint, CallRegister, TailCallRegister, Bad}
use Rattle.window.specs.declared.Window.{Window}
use Rattle.memory.specs.Memory.{ram_access, loaded_if, ram_loaded, external_page, external_loaded, loaded_by, stored_by, signed_loaded}
use Rattle.memory.proofs.Ram.{base_keeps}
use Rattle.memory.specs.declared.Fault.{Fault}
use Rattle.memory.specs.declared.Fault.TheVariants.{OffExternalPage, PastRam, PastStack, LowStack, PastPage}
use Rattle.state.specs.Record.{register, with_place}
use Rattle.state.specs.declared.Base.{Base}
use Rattle.state.specs.declared.Base.TheVariants.{Nothing, Ram, External}
use Rattle.state.specs.declared.Record.{Record}
use Rattle.writing.specs.Writes.{writes_nothing, writing_sp, written_to, applied}
use Rattle.access.specs.Outcomes.{Outcome, does, fails, load_to, store_with}
use Rattle.access.specs.LoadsAndStores.{stack_loaded, stack_stored, store_at, literal_loaded, store_base, loaded_base, accessed}
use Rattle.access.proofs.Theorems.{stack_keeps}
use Rattle.effects.specs.ServiceEffects.{leaves_none, lower_sp, service_does}
use Rattle.stop.specs.Stops.{Exit}
use Rattle.plain.specs.PlainMachine.{Effect, goes_on, exits}
use Rattle.plain.proofs.Runs.{Leaves}
use Rattle.place.specs.Places.{instruction_at, following}
use Rattle.instruction.specs.Instructions.{end_at, branch_to, branch_if, exit_of, served_by, served, effect_of, instruction_of}
use Rattle.instruction.proofs.Words.{Below, below_set, below_take, below_store, loaded_word, extended_word, WordWritten, InWidth, in_width}

-- eight registers of 32 bits, and RAM of bytes
pub record Words (r : Record) (ram : List ℕ) : Type 0 where
  pub eight : length r.regs ≡ 8
  pub words : Below (2 ^ 32) r.regs
  pub bytes : Below 256 ram

-- ---- loads

abbrev LoadedWord : Result ℕ Fault → Type 0
LoadedWord (Ok x) = x < 2 ^ 32
LoadedWord (Err fault) = Unit {0}

-- if its test holds
load_if : (t : Bool) (x : ℕ) (fault : Fault) → x < 2 ^ 32 → LoadedWord (cond t (Ok x) (Err fault))
load_if true x fault h = h
load_if false x fault h = tt

access_word : (s : Result Unit Fault) (x : ℕ) → x < 2 ^ 32 → LoadedWord (loaded_if s x)
access_word (Ok t) x h = h
access_word (Err fault) x h = tt

ram_word : (window : Window) (ram : List ℕ) (at : ℕ) (size : Size) (past : Fault) → Below 256 ram → LoadedWord (ram_loaded window ram at size past)
unfolding ram_loaded
ram_word window ram at size past h =
    access_word (ram_access window at (width_of size) past) (load_le (width_of size) ram at) (loaded_word size ram at h)

stack_word : (window : Window) (ram : List ℕ) (address : ℕ) → Below 256 ram → LoadedWord (stack_loaded window ram address)
unfolding stack_loaded
stack_word window ram address h = go (ltb address 0x10000)
  where
    go : (t : Bool) → LoadedWord (cond t (Err LowStack) (ram_loaded window ram (address - 0x10000) Word PastStack))
    go true = tt
    go false = ram_word window ram (address - 0x10000) Word PastStack h

external_word : (external : List ℕ) (offset imm12 : ℕ) (size : Size) → Below 256 external
    → LoadedWord (external_loaded external offset imm12 size)
unfolding external_loaded external_page
external_word external offset imm12 size h =
    load_if (leb (offset % 256 + imm12 + width_of size) 256) _ OffExternalPage
    (loaded_word size _ (offset % 256 + imm12)
    (below_take 256 256 (drop (offset / 256 * 256) external) (λ k. rw get_or-drop (h (offset / 256 * 256 + k))) (omega arith)))

base_word : (b : Base) (needs_ram : Bool) (window : Window) (ram external : List ℕ) (imm12 : ℕ) (size : Size) → Below 256 ram → Below 256 external
    → LoadedWord (loaded_by b needs_ram window ram external imm12 size)
unfolding loaded_by
base_word Nothing needs_ram window ram external imm12 size h e = tt
base_word (Ram offset) needs_ram window ram external imm12 size h e = ram_word window ram (offset + imm12) size PastRam h
base_word (External offset) true window ram external imm12 size h e = tt
base_word (External offset) false window ram external imm12 size h e = external_word external offset imm12 size e

signed_word : (size : Size) (l : Result ℕ Fault) → LoadedWord (signed_loaded size l)
signed_word size (Ok x) = extended_word (8 * width_of size) (x % 2 ^ (8 * width_of size))
signed_word size (Err fault) = tt

page_word : (page : List ℕ) (k : ℕ) → Below 256 page → word_at page k < 2 ^ 32
unfolding word_at halfword_at
page_word page k h = omega (arith, h (2 * (2 * k)), h (2 * (2 * k) + 1), h (2 * (2 * k + 1)), h (2 * (2 * k + 1) + 1))

literal_word : (page : List ℕ) (place imm8 : ℕ) → Below 256 page → LoadedWord (literal_loaded page place imm8)
unfolding literal_loaded
literal_word page place imm8 h =
    load_if (ltb (place / 2 + 1 + imm8) (bundles_in page)) (word_at page (place / 2 + 1 + imm8)) PastPage
    (page_word page (place / 2 + 1 + imm8) h)

-- ---- outcomes

abbrev OutWords : Outcome → Type 0
OutWords (does w ram) = WordWritten w.register × Below 256 ram
OutWords (fails fault) = Unit {0}

none_after : (o : Outcome) → OutWords o → OutWords (leaves_none o)
unfolding leaves_none
none_after (does w ram) h = h
none_after (fails fault) h = tt

module _ (setting : Setting) (p : Below 256 setting.program.page) (e : Below 256 setting.external) (r : Record) (ram : List ℕ) (h : Words r ram) where
  abbrev page : List ℕ
  page = setting.program.page

  abbrev external : List ℕ
  external = setting.external

  abbrev window : Window
  window = setting.window

  load_words_lem : (t : ℕ) (l : Result ℕ Fault) → LoadedWord l → OutWords (load_to r ram t l)
  unfolding load_to
  load_words_lem t (Ok x) l = (l, h.bytes)
  load_words_lem t (Err fault) l = tt

  store_words_lem : (s : Result Unit Fault) (after : List ℕ) → Below 256 after → OutWords (store_with r s after)
  unfolding store_with
  store_words_lem (Ok t) after l = (tt, l)
  store_words_lem (Err fault) after l = tt

  -- RAM keeps its bytes
  still_bytes : (x at : ℕ) (size : Size) → Below 256 (store_le (width_of size) ram at x)
  still_bytes x at size = below_store (width_of size) ram at x h.bytes

  stack_store : (t address : ℕ) → OutWords (store_at r window ram t address)
  stack_store t address =
      store_words_lem (stack_stored window address) _
      (stack_keeps (Below 256) window ram (register r t) h.bytes (still_bytes (register r t)) address)

  base_store : (size : Size) (t imm12 : ℕ) → OutWords (store_base r window ram size t imm12)
  base_store size t imm12 =
      store_words_lem (stored_by r.base window imm12 size) _
      (base_keeps (Below 256) window ram (register r t) h.bytes (still_bytes (register r t)) r.base imm12 size)

  base_load : (size : Size) (n t imm12 : ℕ) → OutWords (load_to r ram t (loaded_base r window ram external size n imm12))
  base_load size n t imm12 = load_words_lem t _ (base_word r.base (eqb n 9) window ram external imm12 size h.bytes e)

  signed_load : (size : Size) (n t imm12 : ℕ) → OutWords (load_to r ram t (signed_loaded size (loaded_base r window ram external size n imm12)))
  signed_load size n t imm12 = load_words_lem t _ (signed_word size (loaded_base r window ram external size n imm12))

  accessed_words : (access : Access) → OutWords (accessed page external window access r ram)
  unfolding accessed
  accessed_words (LdrLit t imm8) = load_words_lem t _ (literal_word page r.place imm8 p)
  accessed_words (StrSp t imm8) = stack_store t (r.sp + 4 * imm8)
  accessed_words (LdrSp t imm8) = load_words_lem t _ (stack_word window ram (r.sp + 4 * imm8) h.bytes)
  accessed_words (Str t imm12) = base_store Word t imm12
  accessed_words (Strb t imm12) = base_store Byte t imm12
  accessed_words (Strh t imm12) = base_store Halfword t imm12
  accessed_words (Ldr n t imm12) = base_load Word n t imm12
  accessed_words (Ldrb n t imm12) = base_load Byte n t imm12
  accessed_words (Ldrh n t imm12) = base_load Halfword n t imm12
  accessed_words (Ldrsb n t imm12) = signed_load Byte n t imm12
  accessed_words (Ldrsh n t imm12) = signed_load Halfword n t imm12

  -- what writes no register
  still : OutWords (leaves_none (does (writes_nothing r) ram))
  still = none_after (does (writes_nothing r) ram) (tt, h.bytes)

  lower_words : (words : ℕ) → OutWords (lower_sp r ram words)
  unfolding lower_sp
  lower_words words = go (ltb r.sp (0x10000 + 4 * words))
    where
      go : (t : Bool) → OutWords (cond t (fails LowStack) (does (writing_sp (writes_nothing r) (r.sp - 4 * words)) ram))
      go true = tt
      go false = (tt, h.bytes)

  service_words : (s : Service) → OutWords (service_does (length external) window s r ram)
  unfolding service_does
  service_words Return = still
  service_words (Call a n) = still
  service_words (TailCall a n) = still
  service_words (Syscall n i) = still
  service_words (TailSyscall n i) = still
  service_words (LongBranch a) = still
  service_words Preload = still
  service_words (SetBase a) = (tt, h.bytes)
  service_words (StoreAtSp t a) = none_after _ (stack_store t (r.sp + a))
  service_words (LoadAtSp t a) = none_after _ (load_words_lem t _ (stack_word window ram (r.sp + a) h.bytes))
  service_words (LowerSp words) = none_after _ (lower_words words)
  service_words (DirectSyscall n) = still
  service_words (Validate n) = (tt, h.bytes)
  service_words Breakpoint = still
  service_words (CallRegister n) = still
  service_words (TailCallRegister n) = still
  service_words Bad = still

  -- ---- every instruction

  written_lem : (w : Option (ℕ × ℕ)) → WordWritten w → (length (written_to r.regs w) ≡ 8) × Below (2 ^ 32) (written_to r.regs w)
  written_lem None l = (h.eight, h.words)
  written_lem (Some (k, x)) l = (length-set r.regs k x ∙ h.eight, below_set (2 ^ 32) r.regs k x h.words l)

  end_words : (end : Record → List ℕ → Effect) → ((s : Record) (after : List ℕ) → Words s after → Leaves Words (end s after))
      → (place : ℕ) (o : Outcome) → OutWords o → Leaves Words (end_at end r place o)
  unfolding end_at applied
  end_words end k place (does w after) l =
      let regs = written_lem w.register l.0 in
      k _ _ (record { eight = regs.0; words = regs.1; bytes = l.1 })
  end_words end k place (fails fault) l = tt

  moved_lem : (place : ℕ) → Words (with_place r place) ram
  unfolding with_place
  moved_lem place = record { eight = h.eight; words = h.words; bytes = h.bytes }

  branch_words : (t : Option ℕ) → Leaves Words (branch_to r ram t)
  unfolding branch_to
  branch_words None = tt
  branch_words (Some b) = moved_lem (2 * b)

  if_words : (taken : Bool) (next : ℕ) (t : Option ℕ) → Leaves Words (branch_if taken r ram next t)
  unfolding branch_if
  if_words true next t = branch_words t
  if_words false next t = moved_lem next

  served_words : (end : Ending) (exit : Exit) (next : ℕ) (o : Outcome) → OutWords o → Leaves Words (served_by end exit r next o)
  unfolding served_by
  served_words ending.GoesOn exit next o l = end_words goes_on (λ _ _ k. k) next o l
  served_words ending.Exit exit next o l = end_words (exits exit) (λ _ _ k. k) next o l
  served_words ending.LastExit exit next o l = end_words (exits exit) (λ _ _ k. k) r.place o l
  served_words ending.Bad exit next o l = tt

  each_words : (i : Instruction) → InWidth i → Leaves Words (effect_of setting r ram i)
  unfolding effect_of served
  each_words (Data operation) w =
      end_words goes_on (λ _ _ k. k) (following page r.place) _ (w r.regs r.sp r.flags h.words, h.bytes)
  each_words (Memory access) w = end_words goes_on (λ _ _ k. k) (following page r.place) _ (accessed_words access)
  each_words (Cbz imm6 n) w = if_words _ _ _
  each_words (Cbnz imm6 n) w = if_words _ _ _
  each_words (Bcc condition imm8) w = if_words _ _ _
  each_words (B imm11) w = branch_words _
  each_words (instruction.Service n) w =
      served_words (ending_in setting.program n) (exit_of page n) (following page r.place) _ (service_words (service_of page n))
  each_words Unlisted w = tt

  pub words_kept : Leaves Words (instruction_of setting r ram)
  unfolding instruction_of
  words_kept = each_words (instruction_at setting.program r.place) (in_width setting.program r.place)
