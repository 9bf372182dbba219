-- Which calls are accepted, and what they then give.
use Prim.Native.Nat.{ℕ}
use mathlib.Core.Path.{◌≡◌, ap, ◌∙◌}
use mathlib.Core.List.{List, [], ◌∷◌}
use lib.Dec.{eqb}
use lib.ListN.{length}
use borrow.Author.Tests.{eqb-true, eq-eqb, ne_eqb}
use Rattle.refusal.specs.Refusals.{Decision, accepted, refused, Rule, decision, when_accepted}
use Rattle.refusal.proofs.Theorems.{passes_lem}
use Rattle.state.specs.Record.{fresh_record}
use Rattle.state.specs.declared.Record.{Record}
use Rattle.layout.specs.StoredForm.{record_bytes, record_in}
use Rattle.form.specs.Storing.{length_rule, form_rules, load_record}
use Rattle.form.proofs.Ranges.{InRange}

-- a table that begins with the length
module _ (n : ℕ) (rules : List Rule) where
  pub other_length : (n ≡ 44 → ⊥) → refused 6 [] ≡ decision (length_rule n ∷ rules)
  other_length h = rw (ne_eqb n 44 h)

  -- with its length, the rest decides
  pub by_rest : n ≡ 44 → decision rules ≡ decision (length_rule n ∷ rules)
  by_rest h = rw (eq-eqb n 44 h)

module _ (n : ℕ) (values : List ℕ) where
  pub passed : decision (form_rules n values) ≡ accepted → (n ≡ 44) × InRange values
  passed e =
      let p = passes_lem (eqb n 44) 6 [] _ e in
      (eqb-true n 44 p.0, p.1)

-- ---- what a call gives

pub loaded : (bytes : List ℕ) (d : Decision) (s : Record) → d ≡ (load_record bytes).decision
    → s ≡ when_accepted d (record_in bytes) fresh_record → record { decision = d; loaded = s } ≡ load_record bytes
loaded bytes d s e same =
    ap (λ (w : Record). record { decision = d; loaded = w }) same
    ∙ ap (λ (w : Decision). record { decision = w; loaded = when_accepted w (record_in bytes) fresh_record }) e

-- ---- a record that was read, on its way to room of 44 bytes

module _ (rules : List Rule) (s : Record) (room : List ℕ) where
  -- the decision says what becomes of the room
  pub room_by : (d : Decision) → d ≡ decision (length_rule (length room) ∷ rules)
      → when_accepted d (record_bytes s) room ≡ when_accepted (decision (length_rule (length room) ∷ rules)) (record_bytes s) room
  room_by d e = ap (λ (w : Decision). when_accepted w (record_bytes s) room) e
