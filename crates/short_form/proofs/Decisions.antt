-- Which calls are accepted, and what they then give.
use Prim.Native.Nat.{ℕ, ◌+◌, ◌<◌, ◌≤◌}
use mathlib.Core.Path.{◌≡◌, refl, sym, ap, ◌∙◌}
use mathlib.Core.Bool.{true≢false}
use mathlib.Core.List.{List, [], ◌∷◌, ◌++◌}
use native.Mathlib.Omega.{arith}
use lib.ListN.{length, take, drop}
use lib.Seq.{sets-eq, take-append_seam}
use borrow.Author.Tests.{lt-ltb, le-ltb}
use Rattle.refusal.specs.Refusals.{Decision, accepted, refused, Rule, decision, when_accepted}
use Rattle.refusal.proofs.Theorems.{after_lem}
use Rattle.state.specs.declared.Record.{Record}
use Rattle.layout.specs.StoredForm.{range_rules, values_of}
use Rattle.text.specs.Text.{Puts}
use Rattle.std.specs.Prelude.{Option, Some, Result, Ok}
use Rattle.std.specs.Result.{result_ok}
use Rattle.refusal.specs.declared.Refusal.{Refusal}
use Rattle.short_layout.specs.ShortForm.{short_form, Numbers, grouped, not_grouped, numbers_in, InGroups, held_by, seen_held}
use Rattle.short_form.specs.ShortStoring.{room_rule, write_decision, PackAnswer, pack_answer, room_packed, is_grouped, numbers_of, groups_rule, number_rules, record_read, read_record}

-- ---- writing

-- a form on its way into the room
module _ (form room : List ℕ) where
  abbrev pub by_room : Decision
  by_room = decision (room_rule form (length room) ∷ [])

  pub no_room : length room < length form
      → (record { decision = refused 10 []; length = 0 } ≡ pack_answer by_room form) × (room ≡ room_packed by_room form room)
  no_room l = rw (lt-ltb (length room) (length form) l) (refl, refl)

  pub put_in : (n end : ℕ) (after : List ℕ) → n ≡ length form → n ≤ length room → Puts room 0 form end after
      → (record { decision = accepted; length = n } ≡ pack_answer by_room form) × (after ≡ room_packed by_room form room)
  put_in n end after e l p =
      let fits : length form ≤ length room = omega arith in
      let z : 0 + length form ≡ length form = omega arith in
      rw (le-ltb (length room) (length form) fits, e) (refl, p.after_is ∙ sets-eq form room 0 (omega arith) ∙ rw z)

-- a table that ends with the room
module _ (rules : List Rule) (form room : List ℕ) where
  abbrev with_room : Decision
  with_room = decision (rules ++ (room_rule form (length room) ∷ []))

  pub then_room : (d : Decision) → d ≡ decision rules → with_room ≡ when_accepted d (by_room form room) d
  then_room d e = after_lem rules (room_rule form (length room) ∷ []) d e

  pub not_put : (n : ℕ) (values : List ℕ) → refused n values ≡ decision rules
      → (record { decision = refused n values; length = 0 } ≡ pack_answer with_room form) × (room ≡ room_packed with_room form room)
  not_put n values e = rw (then_room (refused n values) e) (refl, refl)

-- an answer that accepts, and the room that it left
module _ (form room left : List ℕ) (d : Decision) (a : PackAnswer) (e : a ≡ pack_answer d form) (f : left ≡ room_packed d form room) (t : a.decision ≡ accepted) where
  pub accepts : d ≡ accepted
  accepts = sym (ap (λ (x : PackAnswer). x.decision) e) ∙ t

  length_is : a.length ≡ length form
  length_is = ap (λ (x : PackAnswer). x.length) e ∙ ap (λ (w : Decision). when_accepted w (length form) 0) accepts

  pub left_is : left ≡ form ++ drop (length form) room
  left_is = f ∙ ap (λ (w : Decision). room_packed w form room) accepts

  pub form_is : take a.length left ≡ form
  form_is = rw (length_is, left_is) (take-append_seam form (drop (length form) room))

-- a record in range is decided by the room
pub written_by : (r : Record) (room form after : List ℕ) (a : PackAnswer) → accepted ≡ decision (range_rules (values_of r)) → form ≡ short_form r
    → (a ≡ pack_answer (by_room form room) form) × (after ≡ room_packed (by_room form room) form room)
    → (a ≡ pack_answer (write_decision r room) (short_form r)) × (after ≡ room_packed (write_decision r room) (short_form r) room)
written_by r room form after a e f given = rw (then_room (range_rules (values_of r)) (short_form r) room accepted e, ← f) given

-- ---- reading

-- bytes whose numbers the code has
held : (numbers : List ℕ) (ns : Numbers) → seen_held (Some numbers) ≡ held_by ns → ns ≡ grouped numbers
held numbers (grouped others) e = ap grouped (sym (ap (λ (a : InGroups). a.numbers) e))
held numbers not_grouped e = absurd (true≢false (ap (λ (a : InGroups). a.grouped) e))

module _ (bytes : List ℕ) {numbers : List ℕ} {o : Option (List ℕ)} {r : Result (List ℕ) Refusal} (e : o ≡ result_ok r) (f : r ≡ Ok numbers) (h : seen_held o ≡ held_by (numbers_in bytes)) where
  numbers_are : numbers_in bytes ≡ grouped numbers
  numbers_are = let some : o ≡ Some numbers = e ∙ ap result_ok f in held numbers (numbers_in bytes) (rw some at h)

  -- their ranges decide
  pub by_range : (d : Decision) → d ≡ decision (number_rules numbers) → record_read d numbers ≡ read_record bytes
  by_range d t = rw t (sym (ap (λ (ns : Numbers). record_read (decision (groups_rule (is_grouped ns) ∷ number_rules (numbers_of ns))) (numbers_of ns)) numbers_are))
