-- Windows at their edges: examples of what a window holds and what it doesn't, in any RAM.
use Rattle.std.specs.Prelude.{ℕ, List, [], ◌∷◌, ◌≡◌, length}
use Rattle.endian.specs.LittleEndian.{load_le, store_le}
use Rattle.window.specs.Windows.{window_of}
use Rattle.platform.specs.Programs.{Setting, default_program, setting_of}
use Rattle.memory.specs.declared.Fault.TheVariants.{NoBase, PastRam, PastStack, OutsideWindow}
use Rattle.state.specs.Record.{fresh_record, with_register, with_sp, with_place, with_base}
use Rattle.state.specs.declared.Base.{Base}
use Rattle.state.specs.declared.Base.TheVariants.{Nothing, Ram}
use Rattle.refusal.specs.Refusals.{accepted, refused}
use Rattle.plain.specs.PlainMachine.{Effect, goes_on, faults}
use Rattle.admission.specs.RunRefusals.{run_decision}
use Rattle.instruction.specs.Instructions.{instruction_of}
use Rattle.claims.specs.Pages.{page_of}

-- one instruction and a return, in a window from start to below end, without external data
abbrev pub within : ℕ → ℕ → ℕ → ℕ → Setting
within first second start end = setting_of (default_program (page_of (first ∷ second ∷ 0xBF00 ∷ 0xDF00 ∷ []))) [] (window_of start end)

-- str r0, [r9] and ldr r1, [r9], of a word
abbrev pub storing : ℕ → ℕ → Base → List ℕ → Effect
storing start end base ram = instruction_of (within 0xF8C9 0x0000 start end) (with_base fresh_record base) ram

abbrev pub loading : ℕ → ℕ → Base → List ℕ → Effect
loading start end base ram = instruction_of (within 0xF8D9 0x1000 start end) (with_base fresh_record base) ram

-- str r0, [sp], behind which a nop stands
abbrev pub storing_at_sp : ℕ → ℕ → ℕ → List ℕ → Effect
storing_at_sp start end sp ram = instruction_of (within 0x9000 0xBF00 start end) (with_sp fresh_record sp) ram

pub record WindowEdges (ram : List ℕ) : Type 0 where
  -- a word at offset 5, in a window of its four bytes
  pub stores : storing 5 9 (Ram 5) ram ≡ goes_on (with_place (with_base fresh_record (Ram 5)) 2) (store_le 4 ram 5 0)
  pub loads : loading 5 9 (Ram 5) ram ≡ goes_on (with_place (with_register (with_base fresh_record (Ram 5)) 1 (load_le 4 ram 5)) 2) ram
  pub stores_at_sp : storing_at_sp 0x7FFC 0x8000 0x17FFC ram ≡ goes_on (with_place (with_sp fresh_record 0x17FFC) 1) (store_le 4 ram 0x7FFC 0)
  -- a byte late, and a byte short
  pub late_store : storing 6 9 (Ram 5) ram ≡ faults OutsideWindow
  pub short_store : storing 5 8 (Ram 5) ram ≡ faults OutsideWindow
  pub late_load : loading 6 9 (Ram 5) ram ≡ faults OutsideWindow
  pub short_load : loading 5 8 (Ram 5) ram ≡ faults OutsideWindow
  pub late_store_at_sp : storing_at_sp 0x7FFD 0x8000 0x17FFC ram ≡ faults OutsideWindow
  pub short_store_at_sp : storing_at_sp 0x7FFC 0x7FFF 0x17FFC ram ≡ faults OutsideWindow
  -- faults 1, 2 and 4 come first, in a window that holds nothing
  pub no_base : storing 0 0 Nothing ram ≡ faults NoBase
  pub past_ram : storing 0 0 (Ram 32765) ram ≡ faults PastRam
  pub past_stack : storing_at_sp 0 0 0x18000 ram ≡ faults PastStack
  -- an empty window is allowed; one that starts above its end isn't, nor one that ends above 32,768
  pub empty : length ram ≡ 32768 → run_decision (within 0xBF00 0xBF00 32768 32768) fresh_record ram ≡ accepted
  pub backward : length ram ≡ 32768 → run_decision (within 0xBF00 0xBF00 1 0) fresh_record ram ≡ refused 20 []
  pub too_far : length ram ≡ 32768 → run_decision (within 0xBF00 0xBF00 0 32769) fresh_record ram ≡ refused 20 []
