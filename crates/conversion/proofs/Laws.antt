-- What packing and unpacking come to as a program's output.
use Prim.Native.Nat.{ℕ, ◌<◌, ◌≤◌}
use mathlib.Core.List.{List}
use mathlib.Core.Path.{◌≡◌, sym, ap, ◌∙◌}
use native.Mathlib.Omega.{arith}
use lib.ListN.{length, get_or, take}
use Rattle.refusal.specs.Refusals.{accepted, decision, refusal_number, refusal_values}
use Rattle.std.specs.Prelude.{Ok, Err}
use Rattle.refusal.specs.declared.Refusal.{Refusal}
use Rattle.refusal.proofs.Theorems.{few_values}
use Rattle.refusal_line.specs.RefusalLine.{refused_text}
use Rattle.refusal_line.proofs.Lengths.{refused_length}
use Rattle.form.specs.Storing.{load_rules}
use Rattle.short_form.specs.ShortStoring.{PackAnswer, seen_packed}
use Rattle.packing.specs.Packing.{pack, room_after_pack}
use Rattle.packing.proofs.Theorems.{room_of_49, form_packed}
use Rattle.conversion.specs.Conversion.{packed}

pub line_length : (why : Refusal) → length (refused_text (refusal_number why) (refusal_values why)) ≤ 64
line_length why = omega (arith, refused_length (refusal_number why) (refusal_values why), few_values why)

-- what is packed into room for any short form
module _ (stored room : List ℕ) (h : (k : ℕ) → get_or stored k 0 < 256) (l : 49 ≤ length room) where
  pub pack_refused : (why : Refusal) → seen_packed (Err why) ≡ pack stored room → refused_text (refusal_number why) (refusal_values why) ≡ packed stored
  pack_refused why e = rw (sym (room_of_49 stored room h l) ∙ sym (ap (λ (x : PackAnswer). x.decision) e))

  pub pack_accepted : (n : ℕ) → seen_packed (Ok n) ≡ pack stored room → take n (room_after_pack stored room) ≡ packed stored
  pack_accepted n e =
      let d : accepted ≡ decision (load_rules stored) = ap (λ (x : PackAnswer). x.decision) e ∙ room_of_49 stored room h l in
      rw (ap (λ (x : PackAnswer). x.length) e, sym d) (form_packed stored room (room_of_49 stored room h l ∙ sym d))
