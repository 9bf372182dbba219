-- What a run's decision says of what it was handed.
use Prim.Native.Nat.{ℕ}
use mathlib.Core.Bool.{true}
use mathlib.Core.List.{List, [], ◌∷◌}
use mathlib.Core.Path.{◌≡◌, sym, ap, ◌∙◌}
use lib.ListN.{length}
use lib.Dec.{eqb}
use borrow.Author.Tests.{eq-eqb, eqb-true}
use Rattle.refusal.specs.Refusals.{accepted, decision, is_accepted}
use Rattle.refusal.proofs.Theorems.{passes_lem, is_accepted_lem, all_accepted, after_lem}
use Rattle.page.specs.Page.{page_fits}
use Rattle.window.specs.Windows.{window_fits}
use Rattle.platform.specs.Programs.{program_rules, Setting}
use Rattle.platform.proofs.Theorems.{program_accepts, program_accepted}
use Rattle.state.specs.FitRecord.{fit_record, fit_rules}
use Rattle.state.specs.Validation.{external_fits}
use Rattle.state.specs.declared.Record.{Record}
use Rattle.state.proofs.Theorems.{accepted_where_fit}
use Rattle.count.specs.Count.{count_program}
use Rattle.place.specs.Places.{fit_place}
use Rattle.admission.specs.RunRefusals.{area_rules, place_rule, record_rules, run_decision}

-- what is allowed and fit is not refused
pub accepts : (setting : Setting) (r : Record) (ram : List ℕ) → decision (program_rules setting.program) ≡ accepted → length ram ≡ 32768
    → external_fits (length setting.external) ≡ true → window_fits setting.window ≡ true
    → fit_record r (length setting.external) ≡ true → fit_place setting.program r.place ≡ true → run_decision setting r ram ≡ accepted
unfolding run_decision
accepts setting r ram p n e w f g =
    let external = length setting.external in
    let count = (count_program setting.program).count in
    let both = program_accepted setting.program p in
    let areas : decision (area_rules setting ram) ≡ accepted = rw (both.0, both.1, eq-eqb _ _ n, e, w) in
    let fits = is_accepted_lem _ (accepted_where_fit r external ∙ f) in
    after_lem (area_rules setting ram) (record_rules setting.program count external r) accepted (sym areas)
    ∙ after_lem (fit_rules r external) (place_rule setting.program count r.place ∷ []) accepted (sym fits) ∙ rw g

-- and only that is accepted
pub accepted_all : (setting : Setting) (r : Record) (ram : List ℕ) → run_decision setting r ram ≡ accepted
    → (decision (program_rules setting.program) ≡ accepted)
    × (length ram ≡ 32768)
    × (external_fits (length setting.external) ≡ true)
    × (window_fits setting.window ≡ true)
    × (fit_record r (length setting.external) ≡ true)
    × (fit_place setting.program r.place ≡ true)
unfolding run_decision
accepted_all setting r ram e =
    let external = length setting.external in
    let count = (count_program setting.program).count in
    let parts = all_accepted (area_rules setting ram) (record_rules setting.program count external r) e in
    let of-record = all_accepted (fit_rules r external) (place_rule setting.program count r.place ∷ []) parts.1 in
    let known = passes_lem _ 18 [] _ parts.0 in
    let first = passes_lem (page_fits setting.program.page) 1 [] _ known.1 in
    let second = passes_lem (eqb (length ram) 32768) 2 [] _ first.1 in
    let third = passes_lem (external_fits external) 3 [] _ second.1 in
    let window = passes_lem (window_fits setting.window) 20 [] _ third.1 in (
      program_accepts setting.program known.0 first.0,
      eqb-true (length ram) 32768 second.0,
      third.0,
      window.0,
      sym (accepted_where_fit r external) ∙ ap is_accepted of-record.0,
      (passes_lem (fit_place setting.program r.place) 5 [] _ of-record.1).0,
    )
