use mathlib.Core.Path.{sym, ap, ◌∙◌}
use Prim.Native.Nat.{◌-◌}
use native.Mathlib.Omega.{arith}
use Rattle.refusal.specs.Refusals.{decision_of}
use Rattle.page.specs.Page.{bundles_in}
use Rattle.page.proofs.Theorems.{fitting}
use Rattle.platform.specs.Programs.{seen_program}
use Rattle.platform.proofs.Theorems.{program_accepted}
use Rattle.prefix.proofs.Theorems.{single_pass_is, scan_turn, scan_end}
use Rattle.bundle.specs.Successors.{successors_of}
use Rattle.bundle.specs.Reader.{ReaderAnswer, seen_read}
use Rattle.count.specs.Count.{count_of}
use Rattle.count.proofs.Laws.{turn}
use Rattle.count.proofs.count.Goals as goal

pub overflow_cast-bundles : goal.overflow_cast-bundles
overflow_cast-bundles c =
    let s = c.args.program.now in
    let a = program_accepted (seen_program s) (sym c.of_program.ensures ∙ ap decision_of c.in_ok-of_program.was) in
    let f = fitting s.page.now a.1 in
    record { fits = omega arith }

pub loop-k-init : goal.loop-k-init
loop-k-init c = let s = c.args.program.now in single_pass_is (successors_of (seen_program s)) (bundles_in s.page.now)

pub loop-k-preserved : goal.loop-k-preserved
loop-k-preserved c =
    let program = seen_program c.args.program.now in
    let k = c.loop-k.k in
    let bound = c.loop-k.bound in
    scan_turn (successors_of program) k bound _ (count_of program) (omega arith)
    (turn program (k - 1) bound _ c.in_ok-read_bundle.field-0 (sym c.of_program.ensures ∙ ap decision_of c.in_ok-of_program.was) (omega arith)
    (ap (λ (a : ReaderAnswer). a.reading) (ap seen_read (sym c.in_ok-read_bundle.was) ∙ c.read_bundle.ensures))
    c.bound_after-bound.ensures)
    c.loop-k.invariant

pub returns : goal.returns
returns c =
    let program = seen_program c.args.program.now in
    rw (← c.of_program.ensures, c.in_ok-of_program.was, scan_end (successors_of program) c.loop-k.k c.loop-k.bound (count_of program) (omega arith) c.loop-k.invariant)
