-- How long the lines are.
use mathlib.Core.Path.{◌≡◌}
use mathlib.Core.Bool.{Bool, true, false}
use mathlib.Core.List.{List, [], ◌∷◌}
use Prim.Native.Nat.{ℕ, ◌+◌, ◌*◌, ◌≤◌}
use native.Mathlib.Omega.{arith}
use lib.ListN.{length, length-append}
use Rattle.arm.specs.declared.Flags.{Flags}
use Rattle.refusal.specs.Refusals.{refusal_number, refusal_values}
use Rattle.refusal.proofs.Theorems.{few_values}
use Rattle.memory.specs.Faults.{fault_number}
use Rattle.stop.specs.Stops.{reason_of}
use Rattle.stop.specs.declared.Stop.{Stop}
use Rattle.stop.specs.declared.Stop.TheVariants.{Budget, Service, ServiceBy, Fault, Unlisted, Refused}
use Rattle.text.proofs.Digits.{hex_length, decimal_length}
use Rattle.refusal_line.proofs.Lengths.{refused_length}
use Rattle.runner_lines.specs.Lines.{stop_text, steps_text, place_text, words_text, regs_text, flag_text, flags_text}

pub stop_length : (stop : Stop) → length (stop_text (reason_of stop)) ≤ 30
unfolding stop_text
stop_length Budget = omega arith
stop_length (Service n) = simp length-append (omega (arith, hex_length 2 n))
stop_length (ServiceBy n literal) = simp length-append (omega (arith, hex_length 2 n, hex_length 8 literal))
stop_length (Fault f) = simp length-append (omega (arith, decimal_length (fault_number f)))
stop_length Unlisted = omega arith
stop_length (Refused r) = omega (arith, refused_length (refusal_number r) (refusal_values r), few_values r)

pub steps_length : (steps : ℕ) → length (steps_text steps) ≤ 17
unfolding steps_text
steps_length steps = simp length-append (omega (arith, decimal_length steps))

pub place_length : (place : ℕ) → length (place_text place) ≤ 17
unfolding place_text
place_length place = simp length-append (omega (arith, decimal_length place))

words_length : (words : List ℕ) → length (words_text words) ≡ 9 * length words
unfolding words_text
words_length [] = omega arith
words_length (x ∷ xs) = simp length-append (omega (arith, hex_length 8 x, words_length xs))

pub regs_length : (regs : List ℕ) → length (regs_text regs) ≡ 5 + 9 * length regs
unfolding regs_text
regs_length regs = simp length-append (omega (arith, words_length regs))

flag_length : (flag : Bool) → length (flag_text flag) ≡ 1
unfolding flag_text
flag_length true = omega arith
flag_length false = omega arith

pub flags_length : (f : Flags) → length (flags_text f) ≡ 11
unfolding flags_text
flags_length f =
    simp length-append
    (omega (arith, flag_length f.n, flag_length f.z, flag_length f.c, flag_length f.v))
