use Rattle.std.proofs.Common.{ℕ, ◌-◌, ◌^◌, ◌<◌, ◌≤◌, ◌∙◌, sym, arith, Err}
use Rattle.std.proofs.lemmas.Result.{err_from_is_err_and}
use Rattle.leb128.specs.Leb128.{number, seen_found}
use Rattle.leb128.proofs.Laws.{none_allowed, none_left, last_read, lower_read, shorter, none_below, small}
use Rattle.leb128.proofs.Theorems.{above}
use Rattle.leb128.proofs.+read_groups.Goals as goal

pub returns-then-most-eq0 : goal.returns-then-most-eq0
returns-then-most-eq0 t c = none_allowed c.args.most c.args.bytes.now (omega arith)

pub returns-in_default : goal.returns-in_default
returns-in_default t c = none_left c.args.most c.args.bytes.now (omega arith) c.in_default.ensures.cases

pub returns-then-b-lt128 : goal.returns-then-b-lt128
returns-then-b-lt128 t c = rw c.from-b.ensures (last_read c.args.most c.in-Some.ensures.cases.0 (omega arith) (omega (arith, c.from-b.ensures)))

pub returns-in_err-x : goal.returns-in_err-x
returns-in_err-x t c =
    let none = c.in_err-x.field-0.0 in
    let told = err_from_is_err_and c.from_residual.result c.from_residual.ensures.1 in
    rw (told.1, told.2)
    (none_below none _ ∙ lower_read c.args.most c.in-Some.ensures.cases.0 (seen_found (Err none)) (omega arith) (omega (arith, c.from-b.ensures)) c.in_err-x.ensures)

pub returns-then-x-eq0 : goal.returns-then-x-eq0
returns-then-x-eq0 t c =
    let r = c.in_ok-x in
    shorter r.x r.n _ (omega arith)
    ∙ lower_read c.args.most c.in-Some.ensures.cases.0 (number r.x r.n) (omega arith) (omega (arith, c.from-b.ensures)) r.ensures

small_rest : (t : ℕ) (c : goal.Else-x-eq0 t) → (c.in_ok-x.x < 2 ^ 28) × (c.in_ok-x.n ≤ 4)
small_rest t c =
    small (c.args.most - 1) c.in-Some.ensures.cases.0 c.in_ok-x.x c.in_ok-x.n (omega arith) (λ k. (c.type_inv.bytes k).fits) c.in_ok-x.ensures

pub overflow_mul-result : goal.overflow_mul-result
overflow_mul-result t c = omega (arith, (small_rest t c).0)

pub overflow_add-result : goal.overflow_add-result
overflow_add-result t c = omega (arith, (small_rest t c).0)

pub overflow_add-result-2 : goal.overflow_add-result-2
overflow_add-result-2 t c = omega (arith, (small_rest t c).1)

pub returns : goal.returns
returns t c =
    let r = c.in_ok-x in
    rw c.from-b.ensures (
    sym (above _ r.x r.n (omega arith))
    ∙ lower_read c.args.most c.in-Some.ensures.cases.0 (number r.x r.n) (omega arith) (omega (arith, c.from-b.ensures)) r.ensures
    )
