use mathlib.Core.Path.{◌≡◌}
use lib.ListN.{length, take}
use Rattle.layout.specs.StoredForm.{stored_form, length_of, decode}
use Rattle.layout.proofs.values_in.Given as goal

abbrev pub invariant-loop-i : goal.invariant-loop-i
invariant-loop-i l = record {
  place : l.at ≡ length_of (take l.i stored_form);
  size : length l.values ≡ 13;
  read : take l.i l.values ≡ decode (take l.i stored_form) l.bytes;
}
