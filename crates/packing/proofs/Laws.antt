-- What a stored record that is read comes to in the short form.
use Prim.Native.Nat.{ℕ}
use mathlib.Core.List.{List}
use mathlib.Core.Path.{◌≡◌, sym, ap, ◌∙◌}
use Rattle.refusal.specs.Refusals.{Decision, accepted, decision, when_accepted}
use Rattle.state.specs.Record.{fresh_record}
use Rattle.state.specs.declared.Record.{Record}
use Rattle.layout.specs.StoredForm.{range_rules, values_of, record_in}
use Rattle.form.specs.Storing.{LoadAnswer, load_rules, load_record}
use Rattle.form.proofs.Theorems.{loaded_range}
use Rattle.short_layout.specs.ShortForm.{short_form}
use Rattle.short_form.specs.ShortStoring.{write_decision, PackAnswer, pack_answer, room_packed}
use Rattle.short_form.proofs.Decisions.{then_room}
use Rattle.packing.specs.Packing.{pack_decision, pack, room_after_pack}

module _ (stored room : List ℕ) where
  -- what is accepted is decided as writing it is
  as_written : decision (load_rules stored) ≡ accepted → write_decision (record_in stored) room ≡ pack_decision stored room
  as_written e =
      let form = short_form (record_in stored) in
      then_room (range_rules (values_of (record_in stored))) form room accepted (sym (loaded_range stored e)) ∙ sym (then_room (load_rules stored) form room accepted (sym e))

  -- and what is read then is what is written
  pub packed : (loaded : Record) (p : PackAnswer) (after : List ℕ) → record { decision = accepted; loaded = loaded } ≡ load_record stored
      → (p ≡ pack_answer (write_decision loaded room) (short_form loaded)) × (after ≡ room_packed (write_decision loaded room) (short_form loaded) room)
      → (p ≡ pack stored room) × (after ≡ room_after_pack stored room)
  packed loaded p after e given =
      let d : decision (load_rules stored) ≡ accepted = sym (ap (λ (x : LoadAnswer). x.decision) e) in
      let same : loaded ≡ record_in stored = ap (λ (x : LoadAnswer). x.loaded) e ∙ ap (λ (w : Decision). when_accepted w (record_in stored) fresh_record) d in
      rw (same, as_written d) at given
