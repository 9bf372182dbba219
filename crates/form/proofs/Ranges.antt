-- What the range tests say of thirteen values.
use Prim.Native.Nat.{ℕ, zero, suc}
use mathlib.Core.Path.{◌≡◌, refl, sym, ap, ◌∙◌}
use mathlib.Core.Bool.{true, not}
use mathlib.Core.List.{List, [], ◌∷◌}
use lib.Dec.{leb}
use lib.ListN.{length, get_or}
use Rattle.refusal.specs.Refusals.{accepted, rule, decision}
use Rattle.refusal.proofs.Theorems.{passes_lem}
use Rattle.state.specs.FitRecord.{sp_fits}
use Rattle.layout.specs.StoredForm.{offset_in_range, offset_stands, range_rules}
use Rattle.layout.proofs.Fields.{whole}
use Rattle.layout.proofs.Theorems.{Stands, stand_tests}

abbrev pub InRange : List ℕ → Type 0
InRange values = decision (range_rules values) ≡ accepted

module _ (values : List ℕ) (l : length values ≡ 13) where
  abbrev kind : ℕ
  kind = get_or values 9 0

  abbrev offset : ℕ
  offset = get_or values 10 0

  -- the tests, one after the other; r0 to r7 have none
  pub range_tests : decision (range_rules values)
      ≡ decision (
      rule (not (sp_fits (get_or values 8 0))) 7 (32 ∷ [])
      ∷ rule (not (leb kind 2)) 7 (36 ∷ [])
      ∷ rule (not (offset_in_range kind offset)) 7 (37 ∷ [])
      ∷ rule (not (leb (get_or values 11 0) 127)) 7 (41 ∷ [])
      ∷ rule (not (leb (get_or values 12 0) 15)) 7 (43 ∷ [])
      ∷ []
      )
  range_tests = ap (λ (vs : List ℕ). decision (range_rules vs)) (sym (whole 13 values l))

  stands : (k o : ℕ) → offset_in_range k o ≡ true → offset_stands k o ≡ true
  stands zero o t = t
  stands (suc k) o t = refl

  -- values in range are some record's
  pub ranged : InRange values → Stands values
  ranged t =
      let sp = passes_lem (sp_fits (get_or values 8 0)) 7 (32 ∷ []) _ (sym range_tests ∙ t) in
      let by_kind = passes_lem (leb kind 2) 7 (36 ∷ []) _ sp.1 in
      let by-offset = passes_lem (offset_in_range kind offset) 7 (37 ∷ []) _ by_kind.1 in
      let place = passes_lem (leb (get_or values 11 0) 127) 7 (41 ∷ []) _ by-offset.1 in
      let flags = passes_lem (leb (get_or values 12 0) 15) 7 (43 ∷ []) _ place.1 in
      rw (stand_tests values l, by_kind.0, stands kind offset by-offset.0, flags.0)
