use mathlib.Core.Path.{◌≡◌, refl}
use lib.ListN.{length}
use borrow.Author.Rules.{rules}
use Rattle.text.proofs.Grows.{all_put}
use Rattle.transcript.proofs.Lengths.{transcript_length}
use Rattle.transcript.proofs.write.Goals as goal

pub returns : goal.returns
returns c =
    let args = c.args in
    let eight : length args.r.regs ≡ 8 = search rules in
    let short = transcript_length args.stop args.steps args.r eight in
    let text = all_put refl short c.put_run.ensures in
    rw (c.bytes.ensures, text) at c.place.ensures
