use Prim.Native.Nat.{ℕ}
use mathlib.Core.List.{List}
use mathlib.Core.Path.{◌≡◌, sym, ap}
use Rattle.stop.specs.Stops.{reason_of}
use Rattle.plain.specs.PlainMachine.{Result}
use Rattle.machine.specs.Runs.{seen}
use Rattle.machine.specs.declared.Answer.{Answer}
use Rattle.transcript.specs.Transcript.{transcript_of}
use Rattle.trial.specs.Trial.{trial_run, trial_of}
use Rattle.trial.proofs.try_page.Goals as goal

-- what a run gives is what is printed
text-is : (page : List ℕ) (a : Answer) (ram : List ℕ) → seen a ram ≡ trial_run page
    → trial_of page ≡ transcript_of (reason_of a.stop) a.steps a.after
unfolding trial_of
text-is page a ram e = ap (λ (x : Result). transcript_of x.stop x.steps x.rec) (sym e)

pub returns : goal.returns
returns c =
    let page = c.args.page.now in
    let run = rw (c.default_platform-platform.ensures, c.whole_ram.ensures, c.fresh_record.ensures) at c.run-answer.ensures in
    rw (text-is page c.run-answer.result _ run) c.write.ensures
