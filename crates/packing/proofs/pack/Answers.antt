use mathlib.Core.Path.{ap}
use Rattle.std.proofs.lemmas.Result.{err_from_is_err_and}
use Rattle.layout.specs.StoredForm.{record_in}
use Rattle.form.specs.Storing.{LoadAnswer, load_rules}
use Rattle.short_layout.specs.ShortForm.{short_form}
use Rattle.short_form.proofs.Decisions.{not_put}
use Rattle.packing.proofs.Laws.{packed}
use Rattle.packing.proofs.pack.Goals as goal

pub returns-in_err-loaded : goal.returns-in_err-loaded
returns-in_err-loaded c =
    let s = c.args in
    let told = err_from_is_err_and c.from_residual.result c.from_residual.ensures.1 in
    rw (told.1, told.2)
    (not_put (load_rules s.stored.now) (short_form (record_in s.stored.now)) s.room.now _ _ (ap (λ (x : LoadAnswer). x.decision) c.in_err-loaded.ensures))

pub returns : goal.returns
returns c = packed c.args.stored.now c.args.room.now c.in_ok-loaded.loaded _ _ c.in_ok-loaded.ensures c.write.ensures
