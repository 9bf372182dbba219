-- Memory: loads and stores by a base, and their edges.
use Rattle.std.specs.Prelude.{ℕ, ◌+◌, ◌*◌, ◌/◌, ◌%◌, ◌^◌, Bool, cond, List, leb, take, drop, Result, Ok, Err}
use Rattle.words.specs.Bitwise.{sign_extended}
use Rattle.endian.specs.LittleEndian.{width_of, load_le, store_le}
use Rattle.endian.specs.declared.Size.{Size}
use Rattle.window.specs.Windows.{inside_window}
use Rattle.window.specs.declared.Window.{Window}
use Rattle.state.specs.declared.Base.{Base}
use Rattle.state.specs.declared.Base.TheVariants.{Nothing, Ram, External}
use Rattle.memory.specs.declared.Fault.{Fault}
use Rattle.memory.specs.declared.Fault.TheVariants.{NoBase, PastRam, OffExternalPage, OutsideWindow}

-- ---- RAM, for base and stack alike: one way to read and one to write. A fault changes nothing

-- the build paper's user RAM, of 32,768 bytes: offset + size at most that
abbrev pub inside_ram : ℕ → ℕ → Bool
inside_ram at bytes = leb (at + bytes) 32768

-- an access of some bytes: past RAM it meets the given fault; then, where it isn't wholly inside the window, fault 7
unfoldable pub ram_access : Window → ℕ → ℕ → Fault → Result Unit Fault
ram_access window at bytes past =
    cond (inside_ram at bytes) (cond (inside_window window at bytes) (Ok tt) (Err OutsideWindow)) (Err past)

-- where an access is done, a load has a number and a store leaves other bytes
abbrev pub loaded_if : Result Unit Fault → ℕ → Result ℕ Fault
loaded_if (Ok t) x = Ok x
loaded_if (Err fault) x = Err fault

abbrev pub after_if : Result Unit Fault → List ℕ → List ℕ → List ℕ
after_if (Ok t) after ram = after
after_if (Err fault) after ram = ram

unfoldable pub ram_loaded : Window → List ℕ → ℕ → Size → Fault → Result ℕ Fault
ram_loaded window ram at size past = loaded_if (ram_access window at (width_of size) past) (load_le (width_of size) ram at)

abbrev pub ram_stored : Window → ℕ → Size → Fault → Result Unit Fault
ram_stored window at size past = ram_access window at (width_of size) past

unfoldable pub ram_after : Window → List ℕ → ℕ → Size → Fault → ℕ → List ℕ
ram_after window ram at size past x = after_if (ram_stored window at size past) (store_le (width_of size) ram at x) ram

-- ---- external data

-- the 256-byte page that holds an offset
unfoldable pub external_page : List ℕ → ℕ → List ℕ
external_page external offset = take 256 (drop (offset / 256 * 256) external)

-- all bytes in that page
unfoldable pub external_loaded : List ℕ → ℕ → ℕ → Size → Result ℕ Fault
external_loaded external offset imm12 size =
    cond (leb (offset % 256 + imm12 + width_of size) 256)
    (Ok (load_le (width_of size) (external_page external offset) (offset % 256 + imm12)))
    (Err OffExternalPage)

-- ---- by a base: imm12 is added without wrapping; loads by r9 and all stores need a RAM base

unfoldable pub loaded_by : Base → Bool → Window → List ℕ → List ℕ → ℕ → Size → Result ℕ Fault
loaded_by Nothing needs_ram window ram external imm12 size = Err NoBase
loaded_by (Ram offset) needs_ram window ram external imm12 size = ram_loaded window ram (offset + imm12) size PastRam
loaded_by (External offset) needs_ram window ram external imm12 size =
    cond needs_ram (Err NoBase) (external_loaded external offset imm12 size)

unfoldable pub stored_by : Base → Window → ℕ → Size → Result Unit Fault
stored_by Nothing window imm12 size = Err NoBase
stored_by (Ram offset) window imm12 size = ram_stored window (offset + imm12) size PastRam
stored_by (External offset) window imm12 size = Err NoBase

unfoldable pub after_store_by : Base → Window → List ℕ → ℕ → Size → ℕ → List ℕ
after_store_by Nothing window ram imm12 size x = ram
after_store_by (Ram offset) window ram imm12 size x = ram_after window ram (offset + imm12) size PastRam x
after_store_by (External offset) window ram imm12 size x = ram

-- ---- signed loads: the bytes that were loaded, their sign extended to 32 bits

abbrev pub signed_loaded : Size → Result ℕ Fault → Result ℕ Fault
signed_loaded size (Ok x) = Ok (sign_extended (8 * width_of size) (x % 2 ^ (8 * width_of size)))
signed_loaded size (Err fault) = Err fault
