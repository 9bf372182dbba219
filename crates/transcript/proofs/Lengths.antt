-- How long a transcript is at most.
use mathlib.Core.Path.{◌≡◌}
use mathlib.Core.Bool.{Bool, true, false, cond}
use Prim.Native.Nat.{ℕ, ◌+◌, ◌≤◌}
use native.Mathlib.Omega.{arith}
use lib.ListN.{length, length-append}
use Rattle.state.specs.declared.Record.{Record}
use Rattle.stop.specs.Stops.{reason_of}
use Rattle.stop.specs.declared.Stop.{Stop}
use Rattle.runner_lines.specs.Lines.{stop_text}
use Rattle.runner_lines.proofs.Lengths.{stop_length, steps_length, place_length, regs_length, flags_length}
use Rattle.transcript.specs.Transcript.{is_refusal, run_lines, transcript_of}

pub transcript_length : (stop : Stop) (steps : ℕ) (r : Record) → length r.regs ≡ 8
    → length (transcript_of (reason_of stop) steps r) ≤ 30 + 17 + 17 + 77 + 11
unfolding transcript_of
transcript_length stop steps r eight = by-refusal (is_refusal (reason_of stop))
  where
    by-refusal : (b : Bool) → length (cond b (stop_text (reason_of stop)) (run_lines (reason_of stop) steps r)) ≤ 30 + 17 + 17 + 77 + 11
    by-refusal true = omega (arith, stop_length stop)
    by-refusal false =
        let stop = stop_length stop in
        let regs = regs_length r.regs in
        simp length-append (omega (arith, steps_length steps, place_length r.place, flags_length r.flags))
