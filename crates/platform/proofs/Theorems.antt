-- What is said of a program that isn't refused.
use mathlib.Core.Bool.{true}
use mathlib.Core.List.{[]}
use mathlib.Core.Path.{◌≡◌}
use Rattle.refusal.specs.Refusals.{accepted, decision}
use Rattle.refusal.proofs.Theorems.{passes_lem}
use Rattle.page.specs.Page.{page_fits}
use Rattle.isa.specs.Profiles.{is_known}
use Rattle.platform.specs.Programs.{Program, program_rules}

pub program_accepts : (program : Program) → is_known program.profile ≡ true → page_fits program.page ≡ true
    → decision (program_rules program) ≡ accepted
program_accepts program p f = rw (p, f)

pub program_accepted : (program : Program) → decision (program_rules program) ≡ accepted
    → (is_known program.profile ≡ true) × (page_fits program.page ≡ true)
program_accepted program e =
    let first = passes_lem (is_known program.profile) 18 [] _ e in
    (first.0, (passes_lem (page_fits program.page) 1 [] _ first.1).0)
