use mathlib.Core.Path.{◌≡◌}
use lib.ListN.{length, take}
use Rattle.short_form.proofs.values_for.Given as goal

-- The first i numbers have become values.
abbrev pub invariant-loop-i : goal.invariant-loop-i
invariant-loop-i l = record {
  size : length l.values ≡ 13;
  same : take l.i l.values ≡ take l.i l.numbers;
}
