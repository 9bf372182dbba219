use mathlib.Core.List.{[]}
use lib.ListN.{take}
use Rattle.layout.specs.StoredForm.{stored_form}
use Rattle.text.specs.Text.{Grows}
use Rattle.short_layout.specs.ShortForm.{bytes_for}
use Rattle.short_layout.proofs.put_numbers.Given as goal

-- The loop has put the first i fields.
abbrev pub invariant-loop-i : goal.invariant-loop-i
invariant-loop-i l = Grows l.initial.text (bytes_for (take l.i stored_form) [] l.numbers) l.text
