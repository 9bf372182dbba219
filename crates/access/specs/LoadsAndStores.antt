-- Loads and stores by the stack pointer, by the base and from the literal pool.
use Rattle.std.specs.Prelude.{ℕ, ◌+◌, ◌-◌, ◌*◌, ◌/◌, cond, List, Result, Ok, Err, ltb, eqb}
use Rattle.endian.specs.declared.Size.{Size}
use Rattle.endian.specs.declared.Size.TheVariants.{Byte, Halfword, Word}
use Rattle.page.specs.Page.{bundles_in, word_at}
use Rattle.window.specs.declared.Window.{Window}
use Rattle.memory.specs.Memory.{ram_loaded, ram_stored, ram_after, loaded_by, stored_by, after_store_by, signed_loaded}
use Rattle.memory.specs.declared.Fault.{Fault}
use Rattle.memory.specs.declared.Fault.TheVariants.{PastStack, LowStack, PastPage}
use Rattle.isa.specs.declared.Access.{Access}
use Rattle.isa.specs.declared.Access.TheVariants.{LdrLit, StrSp, LdrSp, Str, Strb, Strh, Ldr, Ldrb, Ldrh, Ldrsb, Ldrsh}
use Rattle.state.specs.Record.{register}
use Rattle.state.specs.declared.Record.{Record}
use Rattle.access.specs.Outcomes.{Outcome, load_to, store_with}

-- ---- the stack: a word at an address, which is SP and more, without wrapping. Past 0x18000 is fault 4, then outside the window
-- fault 7. Below 0x10000 it is SP that lies there, fault 5; no fit record has such an SP

unfoldable pub stack_loaded : Window → List ℕ → ℕ → Result ℕ Fault
stack_loaded window ram address =
    cond (ltb address 0x10000) (Err LowStack) (ram_loaded window ram (address - 0x10000) Word PastStack)

unfoldable pub stack_stored : Window → ℕ → Result Unit Fault
stack_stored window address = cond (ltb address 0x10000) (Err LowStack) (ram_stored window (address - 0x10000) Word PastStack)

unfoldable pub after_stack_store : Window → List ℕ → ℕ → ℕ → List ℕ
after_stack_store window ram address x = cond (ltb address 0x10000) ram (ram_after window ram (address - 0x10000) Word PastStack x)

abbrev pub load_at : Record → Window → List ℕ → ℕ → ℕ → Outcome
load_at r window ram t address = load_to r ram t (stack_loaded window ram address)

abbrev pub store_at : Record → Window → List ℕ → ℕ → ℕ → Outcome
store_at r window ram t address = store_with r (stack_stored window address) (after_stack_store window ram address (register r t))

-- ---- the literal pool: in bundle k, the word of bundle k + 1 + imm8, from either half; past the page is fault 6

unfoldable pub literal_loaded : List ℕ → ℕ → ℕ → Result ℕ Fault
literal_loaded page place imm8 =
    cond (ltb (place / 2 + 1 + imm8) (bundles_in page)) (Ok (word_at page (place / 2 + 1 + imm8))) (Err PastPage)

-- ---- by the base: stores by r9; loads by r8 or r9, of which r9 needs a RAM base

abbrev pub store_base : Record → Window → List ℕ → Size → ℕ → ℕ → Outcome
store_base r window ram size t imm12 =
    store_with r (stored_by r.base window imm12 size) (after_store_by r.base window ram imm12 size (register r t))

abbrev pub loaded_base : Record → Window → List ℕ → List ℕ → Size → ℕ → ℕ → Result ℕ Fault
loaded_base r window ram external size n imm12 = loaded_by r.base (eqb n 9) window ram external imm12 size

abbrev pub load_base : Record → Window → List ℕ → List ℕ → Size → ℕ → ℕ → ℕ → Outcome
load_base r window ram external size n t imm12 = load_to r ram t (loaded_base r window ram external size n imm12)

abbrev pub load_signed : Record → Window → List ℕ → List ℕ → Size → ℕ → ℕ → ℕ → Outcome
load_signed r window ram external size n t imm12 = load_to r ram t (signed_loaded size (loaded_base r window ram external size n imm12))

-- ---- the instructions, in the order of the listed encodings, with the operands of their encoding

unfoldable pub accessed : List ℕ → List ℕ → Window → Access → Record → List ℕ → Outcome
accessed page external window (LdrLit t imm8) r ram = load_to r ram t (literal_loaded page r.place imm8)
accessed page external window (StrSp t imm8) r ram = store_at r window ram t (r.sp + 4 * imm8)
accessed page external window (LdrSp t imm8) r ram = load_at r window ram t (r.sp + 4 * imm8)
accessed page external window (Str t imm12) r ram = store_base r window ram Word t imm12
accessed page external window (Strb t imm12) r ram = store_base r window ram Byte t imm12
accessed page external window (Strh t imm12) r ram = store_base r window ram Halfword t imm12
accessed page external window (Ldr n t imm12) r ram = load_base r window ram external Word n t imm12
accessed page external window (Ldrb n t imm12) r ram = load_base r window ram external Byte n t imm12
accessed page external window (Ldrh n t imm12) r ram = load_base r window ram external Halfword n t imm12
accessed page external window (Ldrsb n t imm12) r ram = load_signed r window ram external Byte n t imm12
accessed page external window (Ldrsh n t imm12) r ram = load_signed r window ram external Halfword n t imm12
