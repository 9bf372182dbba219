-- The four tests pass exactly where the record is fit, and the first two where SP is.
use Prim.Native.Nat.{ℕ}
use mathlib.Core.Bool.{Bool, true, false, not, ◌&&◌, cond, and-true}
use mathlib.Core.List.{[]}
use mathlib.Core.Path.{◌≡◌, refl, ap, ◌∙◌}
use Rattle.refusal.specs.Refusals.{Decision, accepted, refused, decision, is_accepted}
use Rattle.state.specs.FitRecord.{sp_in_bounds, sp_aligned, ram_offset_fits, external_offset_fits, sp_fits, fit_record, fit_rules}
use Rattle.state.specs.declared.Record.{Record}

-- two lines, and those behind them
two_pass : (a b : Bool) (m n : ℕ) (rest : Decision)
    → is_accepted (cond (not a) (refused m []) (cond (not b) (refused n []) rest)) ≡ ((a && b) && is_accepted rest)
two_pass true true m n rest = refl
two_pass true false m n rest = refl
two_pass false b m n rest = refl

-- and none behind them
last_two : (a b : Bool) (m n : ℕ) → is_accepted (cond (not a) (refused m []) (cond (not b) (refused n []) accepted)) ≡ (a && b)
last_two a b m n = two_pass a b m n accepted ∙ and-true (a && b)

pub accepted_where_fit : (r : Record) (external : ℕ) → is_accepted (decision (fit_rules r external)) ≡ fit_record r external
unfolding fit_record
accepted_where_fit r external =
    two_pass (sp_in_bounds r.sp) (sp_aligned r.sp) 41 42 _
    ∙ ap (λ (t : Bool). sp_fits r.sp && t) (last_two (ram_offset_fits r.base) (external_offset_fits r.base external) 43 44)
