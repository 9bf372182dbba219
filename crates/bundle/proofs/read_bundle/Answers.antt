use mathlib.Core.Path.{sym, ap, ◌∙◌}
use native.Mathlib.Omega.{arith}
use Rattle.refusal.specs.Refusals.{decision_of}
use Rattle.page.proofs.Theorems.{fitting}
use Rattle.platform.specs.Programs.{seen_program}
use Rattle.platform.proofs.Theorems.{program_accepted}
use Rattle.bundle.proofs.read_bundle.Goals as goal

pub largest_at-requires : goal.largest_at-requires
largest_at-requires c =
    let s = c.args.program.now in
    let a = program_accepted (seen_program s) (sym c.of_program.ensures ∙ ap decision_of c.in_ok-of_program.was) in
    let f = fitting s.page.now a.1 in
    omega arith
