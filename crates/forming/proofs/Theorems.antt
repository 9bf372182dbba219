-- The record that the bytes hold is stored as the build paper's call stores it.
use Prim.Native.Nat.{ℕ}
use mathlib.Core.Bool.{true}
use mathlib.Core.List.{List}
use mathlib.Core.Path.{◌≡◌, ap, ◌∙◌}
use lib.ListN.{length}
use borrow.Author.Tests.{eq-eqb}
use Rattle.refusal.specs.Refusals.{Decision, decision, when_accepted}
use Rattle.layout.specs.StoredForm.{record_bytes, record_in, holds_record}
use Rattle.layout.proofs.Theorems.{held, same_values}
use Rattle.form.specs.Storing.{form_rules, store_decision, room_after}
use Rattle.forming.specs.Crossing.{form_decision, form_room}

module _ (bytes room : List ℕ) (h : holds_record bytes ≡ true) where
  pub stored_decision : store_decision (record_in bytes) room ≡ form_decision bytes room
  stored_decision =
      let p = held bytes h in
      ap (λ (values : List ℕ). decision (form_rules (length room) values)) (same_values bytes p.1) ∙ rw (eq-eqb (length bytes) 44 p.0)

  pub stored_room : room_after (record_in bytes) room ≡ form_room bytes room
  stored_room = ap (λ (d : Decision). when_accepted d (record_bytes (record_in bytes)) room) stored_decision
