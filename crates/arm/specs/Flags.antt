-- The flags that an instruction sets by its result; the others keep their value.
use Rattle.std.specs.Prelude.{ℕ, eqb}
use Rattle.bits.specs.Fields.{bit}
use Rattle.arm.specs.declared.Flags.{Flags}
use Rattle.arm.specs.declared.Sum.{Sum}
use Rattle.words.specs.declared.Shifted.{Shifted}

abbrev pub with_nz : Flags → ℕ → Flags
with_nz f x = record { n = bit x 31; z = eqb x 0; c = f.c; v = f.v }

abbrev pub with_nzc : Flags → Shifted → Flags
with_nzc f s = record { n = bit s.value 31; z = eqb s.value 0; c = s.carry; v = f.v }

abbrev pub with_nzcv : Sum → Flags
with_nzcv s = record { n = bit s.value 31; z = eqb s.value 0; c = s.carry; v = s.overflow }
