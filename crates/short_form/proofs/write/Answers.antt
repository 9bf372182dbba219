use mathlib.Core.Path.{ap, ◌∙◌}
use mathlib.Core.List.{List}
use Prim.Native.Nat.{ℕ}
use Rattle.std.proofs.lemmas.Result.{err_from_is_err_and}
use Rattle.refusal.specs.Refusals.{decision}
use Rattle.layout.specs.StoredForm.{range_rules, values_of}
use Rattle.short_layout.specs.ShortForm.{numbers_for, short_bytes, short_form}
use Rattle.short_form.proofs.Decisions.{not_put, written_by}
use Rattle.short_form.proofs.write.Goals as goal

pub returns-in_err-in_range : goal.returns-in_err-in_range
returns-in_err-in_range c =
    let told = err_from_is_err_and c.from_residual.result c.from_residual.ensures.1 in
    let e = c.in_err-in_range.ensures ∙ ap (λ (vs : List ℕ). decision (range_rules vs)) c.values_of-values.ensures in
    rw (told.1, told.2) (not_put (range_rules (values_of c.args.r)) (short_form c.args.r) c.args.room.now _ _ e)

pub returns : goal.returns
unfolding short_form
returns c =
    let e = c.in_ok-in_range.ensures ∙ ap (λ (vs : List ℕ). decision (range_rules vs)) c.values_of-values.ensures in
    let numbers = c.numbers_for.ensures ∙ ap numbers_for c.values_of-values.ensures in
    written_by c.args.r c.args.room.now _ _ _ e (ap short_bytes numbers) c.put_form.ensures
