use mathlib.Core.Path.{sym, ap, ◌≡◌, ◌∙◌}
use mathlib.Core.List.{List}
use Prim.Native.Nat.{ℕ}
use native.Mathlib.Omega.{arith}
use Rattle.std.proofs.lemmas.Result.{err_from_is_err_and}
use Rattle.refusal.specs.Refusals.{accepted}
use Rattle.layout.specs.StoredForm.{stored_form, encode, record_in, record_of}
use Rattle.short_layout.specs.ShortForm.{values_for}
use Rattle.short_form.proofs.Decisions.{by_range}
use Rattle.short_form.proofs.Ranges.{of_32_bits, sp_number, through_bytes}
use Rattle.short_form.proofs.read.Goals as goal

pub returns-in_err-numbers_fit : goal.returns-in_err-numbers_fit
returns-in_err-numbers_fit c =
    let told = err_from_is_err_and c.from_residual-in_err-numbers_fit.result c.from_residual-in_err-numbers_fit.ensures.1 in
    rw (told.1, told.2) (by_range c.args.bytes.now c.ok_or.ensures.ok_part c.in_ok-numbers.was c.numbers_in.ensures _ c.in_err-numbers_fit.ensures)

pub values_for-requires : goal.values_for-requires
values_for-requires c =
    let numbers = c.in_ok-numbers.numbers in
    (of_32_bits numbers (omega arith) (sym c.in_ok-numbers_fit.ensures), sp_number numbers (omega arith) (sym c.in_ok-numbers_fit.ensures))

pub returns : goal.returns
returns c =
    let numbers = c.in_ok-numbers.numbers in
    let values = ap (λ (vs : List ℕ). record_in (encode stored_form vs)) c.values_for.ensures in
    let read : c.record_with.result ≡ record_of (values_for numbers) = c.record_with.ensures ∙ values ∙ through_bytes numbers (omega arith) (sym c.in_ok-numbers_fit.ensures) in
    rw read (by_range c.args.bytes.now c.ok_or.ensures.ok_part c.in_ok-numbers.was c.numbers_in.ensures accepted c.in_ok-numbers_fit.ensures)
