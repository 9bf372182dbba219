-- The record: its parts read and changed, the fresh record.
use Rattle.std.specs.Prelude.{ℕ, false, List, get_or, set, replicate}
use Rattle.arm.specs.declared.Flags.{Flags}
use Rattle.state.specs.declared.Base.{Base}
use Rattle.state.specs.declared.Base.TheVariants.{Nothing, Ram, External}
use Rattle.state.specs.declared.Record.{Record}

-- the build paper's fresh record: all zero, SP 0x18000, base none
abbrev pub fresh_record : Record
fresh_record = record {
  regs = replicate 8 0;
  sp = 0x18000;
  flags = record { n = false; z = false; c = false; v = false };
  place = 0;
  base = Nothing;
}

-- ---- parts

-- the build paper's base, by the number of its kind, 0 none, 1 RAM, 2 external, and its offset, zero for none
abbrev pub kind_of : Base → ℕ
kind_of Nothing = 0
kind_of (Ram offset) = 1
kind_of (External offset) = 2

abbrev pub offset_of : Base → ℕ
offset_of Nothing = 0
offset_of (Ram offset) = offset
offset_of (External offset) = offset

-- register k of the eight
abbrev pub register_in : List ℕ → ℕ → ℕ
register_in regs k = get_or regs k 0

abbrev pub register : Record → ℕ → ℕ
register r k = register_in r.regs k

unfoldable pub with_register : Record → ℕ → ℕ → Record
with_register r k x = record { regs = set r.regs k x; sp = r.sp; flags = r.flags; place = r.place; base = r.base }

unfoldable pub with_sp : Record → ℕ → Record
with_sp r x = record { regs = r.regs; sp = x; flags = r.flags; place = r.place; base = r.base }

unfoldable pub with_flags : Record → Flags → Record
with_flags r f = record { regs = r.regs; sp = r.sp; flags = f; place = r.place; base = r.base }

unfoldable pub with_place : Record → ℕ → Record
with_place r p = record { regs = r.regs; sp = r.sp; flags = r.flags; place = p; base = r.base }

unfoldable pub with_base : Record → Base → Record
with_base r b = record { regs = r.regs; sp = r.sp; flags = r.flags; place = r.place; base = b }
