-- The manual's data-processing operations: operand values and the flags give a value and the flags with it.
use Rattle.std.specs.Prelude.{ℕ, true, false}
use Rattle.arm.specs.Sums.{add_with_carry}
use Rattle.words.specs.Shifts.{lsl_c, lsr_c, asr_c, ror_c}
use Rattle.words.specs.Bitwise.{not_word}
use Rattle.arm.specs.Flags.{with_nz, with_nzc, with_nzcv}
use Rattle.arm.specs.declared.Flags.{Flags}
use Rattle.arm.specs.declared.Sum.{Sum}
use Rattle.words.specs.declared.Shifted.{Shifted}
use Rattle.alu.specs.declared.Valued.{Valued}

-- ---- a shift sets N, Z and C, a sum sets N, Z, C and V, a value by itself N and Z

abbrev pub shifted : Shifted → Flags → Valued
shifted s f = record { value = s.value; flags = with_nzc f s }

abbrev pub summed : Sum → Valued
summed s = record { value = s.value; flags = with_nzcv s }

abbrev pub mov : ℕ → Flags → Valued
mov x f = record { value = x; flags = with_nz f x }

-- ---- shifts of x by n

abbrev pub lsl : ℕ → ℕ → Flags → Valued
lsl x n f = shifted (lsl_c x n f.c) f

abbrev pub lsr : ℕ → ℕ → Flags → Valued
lsr x n f = shifted (lsr_c x n f.c) f

abbrev pub asr : ℕ → ℕ → Flags → Valued
asr x n f = shifted (asr_c x n f.c) f

abbrev pub ror : ℕ → ℕ → Flags → Valued
ror x n f = shifted (ror_c x n f.c) f

-- ---- sums: x + y, x - y, both with the carry, and 0 - x

abbrev pub add : ℕ → ℕ → Valued
add x y = summed (add_with_carry x y false)

abbrev pub sub : ℕ → ℕ → Valued
sub x y = summed (add_with_carry x (not_word y) true)

abbrev pub adc : ℕ → ℕ → Flags → Valued
adc x y f = summed (add_with_carry x y f.c)

abbrev pub sbc : ℕ → ℕ → Flags → Valued
sbc x y f = summed (add_with_carry x (not_word y) f.c)

abbrev pub rsb : ℕ → Valued
rsb x = summed (add_with_carry (not_word x) 0 true)
