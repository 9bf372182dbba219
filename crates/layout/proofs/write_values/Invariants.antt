use mathlib.Core.Path.{◌≡◌}
use lib.ListN.{length, take}
use Rattle.layout.specs.StoredForm.{stored_form, length_of, encode}
use Rattle.layout.proofs.write_values.Given as goal

abbrev pub invariant-loop-i : goal.invariant-loop-i
invariant-loop-i l = record {
  place : l.at ≡ length_of (take l.i stored_form);
  written : take l.at l.room ≡ encode (take l.i stored_form) l.values;
  size : length l.room ≡ length l.initial.room;
}
