-- Frames, as source document 002 lays them out on the stack: eight words between caller and callee.
use Rattle.std.specs.Prelude.{ℕ, zero, suc, ◌+◌, ◌-◌, cond, List, [], ◌∷◌, ◌++◌, ltb, get_or, take, drop, Result, Ok, Err}
use Rattle.endian.specs.LittleEndian.{load_le, store_le}
use Rattle.window.specs.declared.Window.{Window}
use Rattle.memory.specs.Memory.{ram_access}
use Rattle.memory.specs.declared.Fault.{Fault}
use Rattle.memory.specs.declared.Fault.TheVariants.{PastStack, LowStack}

-- ---- the words of a frame, lowest first: PC, FP, r2, r3, r4, r5, r6, r7

abbrev pub frame_of : ℕ → ℕ → List ℕ → List ℕ
frame_of pc fp regs = pc ∷ fp ∷ take 6 (drop 2 regs)

abbrev pub saved_pc : List ℕ → ℕ
saved_pc words = get_or words 0 0

abbrev pub saved_fp : List ℕ → ℕ
saved_fp words = get_or words 1 0

-- r2 to r7 are the saved ones, r0 and r1 stay
abbrev pub restored : List ℕ → List ℕ → List ℕ
restored regs words = take 2 regs ++ drop 2 words

-- ---- words in RAM, one behind the other, from an offset on

abbrev pub store_words : List ℕ → ℕ → List ℕ → List ℕ
store_words ram at [] = ram
store_words ram at (x ∷ words) = store_words (store_le 4 ram at x) (at + 4) words

abbrev pub load_words : ℕ → List ℕ → ℕ → List ℕ
load_words zero ram at = []
load_words (suc n) ram at = load_le 4 ram at ∷ load_words n ram (at + 4)

-- ---- a frame at an address

-- in RAM, which begins at 0x10000
abbrev pub offset_of : ℕ → ℕ
offset_of address = address - 0x10000

-- one access of 32 bytes to the stack: outside the window is fault 7. Below 0x10000 is fault 5 and past 0x18000 fault 4, as for a word
-- there; a call with a fit SP meets 9 before, and no fit FP has such a frame
unfoldable pub frame_access : Window → ℕ → Result Unit Fault
frame_access window address = cond (ltb address 0x10000) (Err LowStack) (ram_access window (offset_of address) 32 PastStack)

-- ---- a frame that is read: its words, or the fault that its access meets

abbrev pub words_if : Result Unit Fault → List ℕ → Result (List ℕ) Fault
words_if (Ok t) words = Ok words
words_if (Err fault) words = Err fault

abbrev pub saved_at : Window → List ℕ → ℕ → Result (List ℕ) Fault
saved_at window ram address = words_if (frame_access window address) (load_words 8 ram (offset_of address))
