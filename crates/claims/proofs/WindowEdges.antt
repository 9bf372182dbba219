-- The edges of windows, by computation.
use Prim.Native.Nat.{ℕ}
use mathlib.Core.List.{List}
use mathlib.Core.Path.{refl}
use borrow.Author.Tests.{eq-eqb}
use Rattle.prefix.specs.Prefix.{all_within, greatest_closed}
use Rattle.isa.specs.Patterns.{matches}
use Rattle.isa.specs.ListedEncodings.{opens32, decode_by}
use Rattle.isa.specs.Profiles.{rows_in}
use Rattle.page.specs.Page.{halfword_at, page_fits}
use Rattle.service.specs.Services.{service_of, by_low_byte}
use Rattle.flow.specs.Flow.{flow_of}
use Rattle.bundle.specs.Successors.{successors_of}
use Rattle.window.specs.Windows.{inside_window}
use Rattle.memory.specs.Memory.{ram_access, ram_loaded, ram_after, loaded_by, stored_by, after_store_by}
use Rattle.state.specs.FitRecord.{fit_record}
use Rattle.state.specs.Validation.{external_fits}
use Rattle.state.specs.Record.{with_register, with_sp, with_place, with_base}
use Rattle.writing.specs.Writes.{applied}
use Rattle.access.specs.Outcomes.{load_to, store_with}
use Rattle.access.specs.LoadsAndStores.{stack_stored, after_stack_store, accessed}
use Rattle.place.specs.Places.{stands_in, instruction_at, following, second_fits, fit_below}
use Rattle.instruction.specs.Instructions.{end_at, effect_of, instruction_of}
use Rattle.admission.specs.RunRefusals.{run_decision}
use Rattle.claims.specs.WindowEdges.{WindowEdges}

pub window_edges : (ram : List ℕ) → WindowEdges ram
unfolding greatest_closed all_within successors_of flow_of service_of by_low_byte halfword_at page_fits opens32 decode_by rows_in matches instruction_of instruction_at stands_in following effect_of end_at applied with_register with_sp with_place with_base accessed load_to store_with stack_stored after_stack_store loaded_by stored_by after_store_by ram_access ram_loaded ram_after inside_window run_decision external_fits fit_record second_fits fit_below
window_edges ram = record {
  stores = refl;
  loads = refl;
  stores_at_sp = refl;
  late_store = refl;
  short_store = refl;
  late_load = refl;
  short_load = refl;
  late_store_at_sp = refl;
  short_store_at_sp = refl;
  no_base = refl;
  past_ram = refl;
  past_stack = refl;
  empty = λ n. rw (eq-eqb _ _ n);
  backward = λ n. rw (eq-eqb _ _ n);
  too_far = λ n. rw (eq-eqb _ _ n);
}
