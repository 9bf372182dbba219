-- What is decoded by the profile of a number.
use Prim.Native.Nat.{ℕ, zero, suc, ◌≤◌}
use native.Mathlib.Omega.{arith}
use mathlib.Core.Bool.{Bool, not, cond}
use mathlib.Core.List.{List}
use mathlib.Core.Path.{◌≡◌, sym}
use Rattle.isa.specs.ListedEncodings.{Row, decode_by, listed16, listed32, decode16_of}
use Rattle.isa.specs.Profiles.{rows_in, compares_and_branches, profile_of, encodings_of}
use Rattle.isa.specs.declared.Instruction.{Instruction}
use Rattle.isa.specs.declared.Instruction.TheVariants.{Unlisted}
use Rattle.isa.proofs.Profiles.{whole, none, small16, small32}

abbrev decodes : ℕ → List Row → ℕ → Instruction
decodes number rows w = decode_by (rows_in (encodings_of (profile_of number)) rows) w

pub of_full : (number : ℕ) (rows : List Row) (w : ℕ) → number ≡ 0 → decode_by rows w ≡ decodes number rows w
of_full number rows w e = rw (e, whole rows)

pub of_small16 : (number h : ℕ) (i : Instruction) (kept : Bool) → number ≡ 1 → i ≡ decode16_of h
    → not (compares_and_branches i) ≡ kept → cond kept i Unlisted ≡ decodes number listed16 h
unfolding decode_by
of_small16 number h i kept n e k = rw (n, ← k, e) (sym (small16 h))

-- no profile has the number
pub of_none : (number : ℕ) (rows : List Row) (w : ℕ) → 2 ≤ number → Unlisted ≡ decodes number rows w
unfolding decode_by
of_none zero rows w l = absurd (omega arith)
of_none (suc zero) rows w l = absurd (omega arith)
of_none (suc (suc n)) rows w l = rw (none rows)

-- the small profile has none of 32 bits either
pub of_other32 : (number w : ℕ) → 1 ≤ number → Unlisted ≡ decodes number listed32 w
unfolding decode_by
of_other32 zero w l = absurd (omega arith)
of_other32 (suc zero) w l = rw small32
of_other32 (suc (suc n)) w l = of_none (suc (suc n)) listed32 w (omega arith)
