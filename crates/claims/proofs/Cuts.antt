-- The runs that are cut, by computation and by induction on the budget.
use Prim.Native.Nat.{ℕ, zero, suc, ◌+◌}
use native.Mathlib.Omega.{arith}
use mathlib.Core.List.{List}
use mathlib.Core.Path.{◌≡◌, refl, ap, ◌∙◌}
use borrow.Author.Tests.{eq-eqb}
use Rattle.prefix.specs.Prefix.{all_within, greatest_closed}
use Rattle.isa.specs.Patterns.{matches}
use Rattle.isa.specs.ListedEncodings.{opens32, decode_by}
use Rattle.isa.specs.Profiles.{rows_in}
use Rattle.page.specs.Page.{halfword_at, page_fits}
use Rattle.service.specs.Services.{service_of, by_low_byte}
use Rattle.branch.specs.Branches.{bundle_at}
use Rattle.flow.specs.Flow.{flow_of}
use Rattle.bundle.specs.Successors.{successors_of}
use Rattle.state.specs.Validation.{external_fits}
use Rattle.state.specs.Record.{fresh_record, with_register, with_place}
use Rattle.stop.specs.Stops.{budget}
use Rattle.writing.specs.Writes.{applied}
use Rattle.effects.specs.ServiceEffects.{leaves_none, service_does}
use Rattle.place.specs.Places.{stands_in, instruction_at, following, second_fits, fit_below}
use Rattle.instruction.specs.Instructions.{end_at, branch_to, exit_of, served_by, served, effect_of, instruction_of}
use Rattle.admission.specs.RunRefusals.{run_decision}
use Rattle.plain.specs.PlainMachine.{Result, goes_on, plain}
use Rattle.claims.specs.Cuts.{looping, CutsInAnyRam}

-- the loop's branch leaves everything as it is
loop_goes_on : (ram : List ℕ) → instruction_of looping fresh_record ram ≡ goes_on fresh_record ram
unfolding halfword_at opens32 decode_by rows_in matches bundle_at instruction_of instruction_at stands_in effect_of branch_to with_place
loop_goes_on ram = refl

abbrev spent_after : ℕ → List ℕ → Result
spent_after steps ram = record { stop = budget; steps = steps; rec = fresh_record; ram = ram }

loop_spends : (left steps : ℕ) (ram : List ℕ) → plain (instruction_of looping) left steps fresh_record ram ≡ spent_after (steps + left) ram
unfolding plain
loop_spends zero steps ram = ap (λ n. spent_after n ram) (omega arith)
loop_spends (suc left) steps ram = rw (loop_goes_on ram) (loop_spends left (steps + 1) ram ∙ ap (λ n. spent_after n ram) (omega arith))

pub cuts : CutsInAnyRam
unfolding greatest_closed all_within successors_of flow_of bundle_at service_of by_low_byte halfword_at page_fits opens32 decode_by rows_in matches instruction_of instruction_at stands_in following effect_of end_at exit_of served_by served leaves_none service_does applied with_register with_place run_decision external_fits second_fits fit_below plain
cuts ram n = record {
  loops = λ a. rw (eq-eqb _ _ n) (loop_spends a 0 ram ∙ ap (λ k. spent_after k ram) (omega arith));
  first = rw (eq-eqb _ _ n);
  second = rw (eq-eqb _ _ n);
  whole = rw (eq-eqb _ _ n);
}
