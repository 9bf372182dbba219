-- The runner's whole output.
use Rattle.std.specs.Prelude.{ℕ, Bool, true, false, cond, List, ◌++◌}
use Rattle.state.specs.declared.Record.{Record}
use Rattle.stop.specs.Stops.{Reason, budget, service, fault, unlisted, refused}
use Rattle.runner_lines.specs.Lines.{stop_text, steps_text, place_text, regs_text, flags_text}

abbrev pub is_refusal : Reason → Bool
is_refusal budget = false
is_refusal (service exit) = false
is_refusal (fault n) = false
is_refusal unlisted = false
is_refusal (refused n values) = true

-- the five lines of a run
abbrev pub run_lines : Reason → ℕ → Record → List ℕ
run_lines reason steps r = stop_text reason ++ steps_text steps ++ place_text r.place ++ regs_text r.regs ++ flags_text r.flags

-- a refusal is its one line
unfoldable pub transcript_of : Reason → ℕ → Record → List ℕ
transcript_of reason steps r = cond (is_refusal reason) (stop_text reason) (run_lines reason steps r)
