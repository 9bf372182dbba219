use mathlib.Core.Path.{◌≡◌}
use lib.ListN.{get_or, take, drop}
use Rattle.refusal.specs.Refusals.{decision}
use Rattle.layout.specs.StoredForm.{stored_form, length_of, field_rules}
use Rattle.short_form.specs.ShortStoring.{number_fits, number_rules}
use Rattle.short_form.proofs.numbers_fit.Given as goal

-- The first i numbers have passed.
abbrev pub invariant-loop-i : goal.invariant-loop-i
invariant-loop-i l = record {
  place : l.at ≡ length_of (take l.i stored_form);
  same : decision (field_rules number_fits 7 (get_or l.numbers 9 0) l.at (drop l.i stored_form) (drop l.i l.numbers)) ≡ decision (number_rules l.numbers);
}
