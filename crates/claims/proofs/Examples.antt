-- The starred examples hold, by computation.
use mathlib.Core.Path.{refl}
use Rattle.prefix.specs.Prefix.{all_within, greatest_closed}
use Rattle.isa.specs.Patterns.{matches}
use Rattle.isa.specs.ListedEncodings.{opens32, decode_by}
use Rattle.isa.specs.Profiles.{rows_in}
use Rattle.page.specs.Page.{halfword_at, word_at, page_fits}
use Rattle.literal.specs.Literals.{literal_of, call_of, syscall_of, address_operation_of}
use Rattle.service.specs.Services.{service_of, by_low_byte, literal_service}
use Rattle.branch.specs.Branches.{bundle_at}
use Rattle.flow.specs.Flow.{flow_of}
use Rattle.bundle.specs.Successors.{successors_of}
use Rattle.state.specs.Record.{with_register, with_flags, with_place}
use Rattle.writing.specs.Writes.{applied}
use Rattle.place.specs.Places.{stands_in, instruction_at, following}
use Rattle.instruction.specs.Instructions.{end_at, branch_to, branch_if, effect_of, instruction_of}
use Rattle.claims.specs.Examples.{Starred}

pub starred : Starred
unfolding greatest_closed all_within successors_of flow_of bundle_at service_of by_low_byte literal_service literal_of call_of syscall_of address_operation_of halfword_at word_at page_fits opens32 decode_by rows_in matches instruction_of instruction_at stands_in following effect_of end_at branch_if branch_to applied with_register with_flags with_place
starred = record {
  empty = refl;
  returns = refl;
  falls_off = refl;
  loops = refl;
  into_a_bundle = refl;
  branches = refl;
  target_2 = refl;
  back_from_second = refl;
  before_page = refl;
  over_a_bad_bundle = refl;
  store_by_r9 = refl;
  store_by_r8 = refl;
  tail_call = refl;
  compare = λ ram. refl;
  blt_taken = λ ram. refl;
}
