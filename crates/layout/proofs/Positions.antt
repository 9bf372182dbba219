-- A table of fields: the first that fails is told by its position, and what none fails is accepted.
use Prim.Native.Nat.{ℕ, zero, suc, ◌+◌, ◌<◌}
use mathlib.Core.Bool.{true, false, not, cond}
use mathlib.Core.List.{List, [], ◌∷◌, ◌++◌, map}
use mathlib.Core.Path.{◌≡◌, refl, ap, ◌∙◌}
use native.Mathlib.Nat.{le_of_suc-le-suc}
use native.Mathlib.Omega.{arith}
use lib.ListN.{length, get_or, take, drop}
use Rattle.refusal.specs.Refusals.{accepted, refused, decision}
use Rattle.refusal.proofs.Theorems.{passes_lem}
use Rattle.layout.specs.StoredForm.{Test, Field, stored_form, form_length, length_of, field_at, width_at, field_rules}

module _ (test : Field → Test) (n kind : ℕ) where
  -- each of these fields has a value, which passes
  abbrev pub AllPass : List Field → List ℕ → Type 0
  AllPass [] [] = Unit {0}
  AllPass [] (x ∷ values) = ⊥
  AllPass (f ∷ fields) [] = ⊥
  AllPass (f ∷ fields) (x ∷ values) = (test f kind x ≡ true) × AllPass fields values

  -- where a field fails and none before it does, it is refused with the bytes before it; what follows it doesn't matter
  pub first_fails : (before later : List Field) (f : Field) (passed others : List ℕ) (x at : ℕ) → AllPass before passed → test f kind x ≡ false
      → decision (field_rules test n kind at (before ++ (f ∷ later)) (passed ++ (x ∷ others))) ≡ refused n ((at + length_of before) ∷ [])
  first_fails [] later f [] others x at all fails =
      let e : at ≡ at + 0 = omega arith in
      rw fails (ap (λ p. refused n (p ∷ [])) e)
  first_fails [] later f (y ∷ passed) others x at all fails = absurd all
  first_fails (g ∷ before) later f [] others x at all fails = absurd all
  first_fails (g ∷ before) later f (y ∷ passed) others x at all fails =
      let e : at + g.width + length_of before ≡ at + (g.width + length_of before) = omega arith in
      rw all.0 (first_fails before later f passed others x (at + g.width) all.1 fails ∙ ap (λ p. refused n (p ∷ [])) e)

  -- ---- one by one

  -- what is accepted has passed every one
  pub each_passes : (fields : List Field) (values : List ℕ) (at i : ℕ) → decision (field_rules test n kind at fields values) ≡ accepted
      → i < length fields → i < length values → test (field_at fields i) kind (get_or values i 0) ≡ true
  each_passes [] values at i e l m = absurd (omega arith)
  each_passes (f ∷ fields) [] at i e l m = absurd (omega arith)
  each_passes (f ∷ fields) (x ∷ values) at zero e l m = (passes_lem (test f kind x) n (at ∷ []) _ e).0
  each_passes (f ∷ fields) (x ∷ values) at (suc i) e l m =
      each_passes fields values (at + f.width) i (passes_lem (test f kind x) n (at ∷ []) _ e).1 (le_of_suc-le-suc l) (le_of_suc-le-suc m)

  -- and what passes every one is accepted
  pub none_fails : (fields : List Field) (values : List ℕ) (at : ℕ) → ((i : ℕ) → i < length fields → test (field_at fields i) kind (get_or values i 0) ≡ true)
      → decision (field_rules test n kind at fields values) ≡ accepted
  none_fails [] values at h = refl
  none_fails (f ∷ fields) [] at h = refl
  none_fails (f ∷ fields) (x ∷ values) at h = rw (h 0 (omega arith)) (none_fails fields values (at + f.width) (λ i l. h (suc i) (omega arith)))

  -- the next one
  pub next_rule : (fields : List Field) (values : List ℕ) (at i : ℕ) → i < length fields → i < length values
      → decision (field_rules test n kind at (drop i fields) (drop i values))
      ≡ cond (not (test (field_at fields i) kind (get_or values i 0))) (refused n (at ∷ [])) (decision (field_rules test n kind (at + width_at fields i) (drop (suc i) fields) (drop (suc i) values)))
  next_rule [] values at i l m = absurd (omega arith)
  next_rule (f ∷ fields) [] at i l m = absurd (omega arith)
  next_rule (f ∷ fields) (x ∷ values) at zero l m = refl
  next_rule (f ∷ fields) (x ∷ values) at (suc i) l m = next_rule fields values at i (le_of_suc-le-suc l) (le_of_suc-le-suc m)

-- ---- positions

-- the bytes before each field of the stored form: r0 to r7, SP, base kind, offset, place, flags
pub positions : map (λ (k : ℕ). length_of (take k stored_form)) (0 ∷ 1 ∷ 2 ∷ 3 ∷ 4 ∷ 5 ∷ 6 ∷ 7 ∷ 8 ∷ 9 ∷ 10 ∷ 11 ∷ 12 ∷ [])
    ≡ 0 ∷ 4 ∷ 8 ∷ 12 ∷ 16 ∷ 20 ∷ 24 ∷ 28 ∷ 32 ∷ 36 ∷ 37 ∷ 41 ∷ 43 ∷ []
positions = refl

pub form_length_lem : length_of stored_form ≡ form_length
form_length_lem = refl
