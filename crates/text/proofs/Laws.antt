-- A text that grows.
use mathlib.Core.Path.{◌≡◌, refl, sym, ap, ◌∙◌}
use mathlib.Core.List.{List, [], ◌∷◌, ◌++◌}
use Prim.Native.Nat.{ℕ, suc, ◌+◌, ◌≤◌, min}
use native.Mathlib.Decide.{dec_lt}
use native.Mathlib.Nat.{add-zero, min-eq_left, min-eq_right}
use native.Mathlib.Omega.{arith}
use lib.ListN.{length, take, drop, set, length-append}
use lib.Seq.{sets, length-sets, sets-eq, set_out, take_at}
use Rattle.text.specs.Text.{Puts}

-- past the end nothing is stored
sets_out : (piece buffer : List ℕ) (at : ℕ) → length buffer ≤ at → sets buffer at piece ≡ buffer
sets_out [] buffer at h = refl
sets_out (b ∷ piece) buffer at h = rw (set_out buffer at b h) (sets_out piece buffer (suc at) (omega arith))

-- so a position past the end is as good as the end
sets_ended : (q buffer : List ℕ) (at : ℕ) → sets buffer (min at (length buffer)) q ≡ sets buffer at q
sets_ended q buffer at = elim (dec_lt at (length buffer)) [
  | yes h ↦ rw (min-eq_left {n = at} {m = length buffer} (omega arith))
  | no h ↦ rw (
    min-eq_right {n = length buffer} {m = at} (omega arith),
    sets_out q buffer (length buffer) (omega arith),
    sets_out q buffer at (omega arith),
  )
]

-- a piece of two parts
sets_behind : (p q buffer : List ℕ) (at : ℕ) → sets buffer at (p ++ q) ≡ sets (sets buffer at p) (at + length p) q
sets_behind [] q buffer at = rw (add-zero at)
sets_behind (b ∷ p) q buffer at =
    let e : suc at + length p ≡ at + suc (length p) = omega arith in
    rw (← e) (sets_behind p q (set buffer at b) (suc at))

pub keeps_length : {before piece after : List ℕ} {at end : ℕ} → Puts before at piece end after → length after ≡ length before
keeps_length {before = before} {piece = piece} {at = at} x = ap length x.after_is ∙ length-sets before at piece

-- one piece behind another
infixl 30 ◌then◌
pub ◌then◌ : {before between after : List ℕ} {at end last : ℕ} {p q : List ℕ}
    → Puts before at p end between → Puts between end q last after → Puts before at (p ++ q) last after
◌then◌ {before = before} {between = between} {at = at} {p = p} {q = q} x y =
    let n = keeps_length x in
    record {
      after_is = y.after_is ∙ rw (x.end_is, ← n, sets_ended q between (at + length p), x.after_is, sets_behind p q before at);
      end_is = omega (arith, n, length-append p q);
    }

-- nothing, at a position that is not past the end
pub unchanged_lem : (buffer : List ℕ) (at : ℕ) → at ≤ length buffer → Puts buffer at [] at buffer
unchanged_lem buffer at h = record { after_is = refl; end_is = omega arith }

-- a text that was begun at the start, and for which there is room
pub whole : {buffer text after : List ℕ} {end : ℕ} → length text ≤ length buffer → Puts buffer 0 text end after
    → (end ≡ length text) × (take end after ≡ text)
whole {buffer = buffer} {text = text} {end = end} h x =
    let e : end ≡ length text = omega arith in
    let t = take_at text (drop (0 + length text) buffer) end (sym e) in
    (e, rw (x.after_is, sets-eq text buffer 0 (omega arith)) t)
