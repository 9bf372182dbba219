use Rattle.std.proofs.Common.{◌++◌, rules, take, sym, ap, ◌∙◌, subst}
use Rattle.std.proofs.lemmas.List.{take_rest}
use Rattle.std.specs.Io.KnownBytes.{Appends}
use Rattle.std.proofs.KnownBytes.{Appends-trans}
use lib.Seq.{take-add}
use Rattle.streams.proofs.Taken.{taken_appended}
use Rattle.streams.proofs.write_output.Goals as goal

pub loop-done-preserved : goal.loop-done-preserved
loop-done-preserved g c =
    let text = c.args.text.now in
    let done = c.loop-done.done in
    let taken = c.unwrap_or-taken.result in
    let (fits, more) = taken_appended _ _ _ c.write.result taken c.unwrap_or-taken.ensures c.if-taken-eq0.false c.write.ensures.bound c.write.ensures.bytes in
    let joined = ap (λ l. take done text ++ take taken l) (take_rest text done) ∙ sym (take-add done taken text) in
    (search rules, subst (Appends _ _) joined (Appends-trans _ _ _ _ _ c.loop-done.invariant.1 more))
