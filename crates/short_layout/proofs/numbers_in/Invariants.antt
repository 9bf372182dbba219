use mathlib.Core.Path.{◌≡◌}
use Prim.Native.Nat.{◌≤◌}
use lib.ListN.{length, take, drop}
use Rattle.layout.specs.StoredForm.{stored_form}
use Rattle.short_layout.specs.ShortForm.{numbers_behind, numbers_in}
use Rattle.short_layout.proofs.numbers_in.Given as goal

-- The loop has read the first i fields.
abbrev pub invariant-loop-i : goal.invariant-loop-i
invariant-loop-i l = record {
  inside : l.at ≤ length l.bytes;
  size : length l.numbers ≡ 13;
  same : numbers_behind (drop l.i stored_form) (take l.i l.numbers) (drop l.at l.bytes) ≡ numbers_in l.bytes;
}
