use mathlib.Core.Path.{sym, ◌∙◌}
use Rattle.text.proofs.Grows.{◌then◌}
use Rattle.transcript.specs.Transcript.{transcript_of}
use Rattle.transcript.proofs.put_run.Goals as goal

pub returns-then-is_refusal : goal.returns-then-is_refusal
unfolding transcript_of
returns-then-is_refusal c = rw (sym c.is_refusal.ensures ∙ c.if-is_refusal.true) c.stop_line.ensures

pub returns : goal.returns
unfolding transcript_of
returns c =
    rw (sym c.is_refusal.ensures ∙ c.if-is_refusal.false)
    (c.stop_line.ensures then c.steps_line.ensures then c.place_line.ensures
    then c.regs_line.ensures then c.flags_line.ensures)
