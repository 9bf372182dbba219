-- What a step and a run refuse: 18, 1, 2, 3, 20, then 41 to 44, then 5.
use Rattle.std.specs.Prelude.{ℕ, not, List, [], ◌∷◌, ◌++◌, eqb, length}
use Rattle.refusal.specs.Refusals.{Decision, Rule, rule, decision}
use Rattle.window.specs.Windows.{window_rule}
use Rattle.window.specs.declared.Window.{Window}
use Rattle.platform.specs.Programs.{Program, program_rules, Setting}
use Rattle.state.specs.FitRecord.{fit_rules}
use Rattle.state.specs.Validation.{external_rule}
use Rattle.state.specs.declared.Record.{Record}
use Rattle.count.specs.Count.{count_program}
use Rattle.place.specs.Places.{fit_below}

-- refusal 2
abbrev pub ram_rule : List ℕ → Rule
ram_rule ram = rule (not (eqb (length ram) 32768)) 2 []

-- what a filter is lent beside its program: 2, 3, 20
abbrev pub lent_rules : List ℕ → Window → List ℕ → List Rule
lent_rules external window ram = ram_rule ram ∷ external_rule (length external) ∷ window_rule window ∷ []

-- before the record is looked at: 18, 1, 2, 3, 20
abbrev pub area_rules : Setting → List ℕ → List Rule
area_rules setting ram = program_rules setting.program ++ lent_rules setting.external setting.window ram

-- refusal 5, of a place that isn't fit by a count
abbrev pub place_rule : Program → ℕ → ℕ → Rule
place_rule program count place = rule (not (fit_below program count place)) 5 []

-- of the record, given the count and the external data's length: 41 to 44, 5
abbrev pub record_rules : Program → ℕ → ℕ → Record → List Rule
record_rules program count external r = fit_rules r external ++ (place_rule program count r.place ∷ [])

-- on a lone page, by its own count
abbrev pub run_rules : Setting → Record → List ℕ → List Rule
run_rules setting r ram =
    area_rules setting ram ++ record_rules setting.program (count_program setting.program).count (length setting.external) r

unfoldable pub run_decision : Setting → Record → List ℕ → Decision
run_decision setting r ram = decision (run_rules setting r ram)
