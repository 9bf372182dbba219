-- What an instruction writes, and the record afterwards. A branch writes nothing: it only moves the place.
use Rattle.std.specs.Prelude.{ℕ, List, set, Option, Some, None}
use Rattle.arm.specs.declared.Flags.{Flags}
use Rattle.state.specs.declared.Base.{Base}
use Rattle.state.specs.declared.Record.{Record}
use Rattle.writing.specs.declared.Writes.{Writes}

-- a register and the flags; SP and the base stay
abbrev pub keeping : Record → Option (ℕ × ℕ) → Flags → Writes
keeping r register flags = record { register = register; flags = flags; sp = r.sp; base = r.base }

abbrev pub writes_nothing : Record → Writes
writes_nothing r = keeping r None r.flags

-- the same, and SP or the base besides
abbrev pub writing_sp : Writes → ℕ → Writes
writing_sp w sp = record { register = w.register; flags = w.flags; sp = sp; base = w.base }

abbrev pub writing_base : Writes → Base → Writes
writing_base w base = record { register = w.register; flags = w.flags; sp = w.sp; base = base }

-- one register at most changes
abbrev pub written_to : List ℕ → Option (ℕ × ℕ) → List ℕ
written_to regs None = regs
written_to regs (Some (k, x)) = set regs k x

-- the record with what was written, at a place
unfoldable pub applied : Record → Writes → ℕ → Record
applied r w place = record { regs = written_to r.regs w.register; sp = w.sp; flags = w.flags; place = place; base = w.base }
