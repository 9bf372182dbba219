use mathlib.Core.Path.{sym, ◌∙◌}
use native.Mathlib.Numerals.{add-one}
use native.Mathlib.Omega.{arith}
use lib.ListN.{get_or}
use Rattle.layout.specs.StoredForm.{stored_form}
use Rattle.layout.proofs.Laws.{next}
use Rattle.layout.proofs.Positions.{next_rule}
use Rattle.short_form.specs.ShortStoring.{number_fits}
use Rattle.short_form.proofs.numbers_fit.Goals as goal

pub returns-then-not-number_fits : goal.returns-then-not-number_fits
returns-then-not-number_fits c =
    let l = c.loop-i in
    let numbers = c.args.numbers in
    let fails = sym c.number_fits.ensures ∙ c.if-not-number_fits.true in
    sym (rw fails at (next_rule number_fits 7 (get_or numbers 9 0) stored_form numbers l.at l.i (omega arith) (omega arith))) ∙ l.invariant.same

pub loop-i-preserved : goal.loop-i-preserved
loop-i-preserved c =
    let l = c.loop-i in
    let numbers = c.args.numbers in
    let holds = sym c.number_fits.ensures ∙ c.if-not-number_fits.false in record {
      place = next stored_form l.i l.at c.width_of-at.result (omega arith) l.invariant.place c.width_of-at.ensures;
      same = rw (add-one, c.width_of-at.ensures) (sym (rw holds at (next_rule number_fits 7 (get_or numbers 9 0) stored_form numbers l.at l.i (omega arith) (omega arith))) ∙ l.invariant.same);
    }
