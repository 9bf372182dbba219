use mathlib.Core.Path.{refl}
use Rattle.execution.proofs.Laws.{goes_on_lem, exits_so, ends, serving}
use Rattle.execution.specs.Executed.{effect_ram}
use Rattle.instruction.specs.Instructions.{served_by}
use Rattle.execution.proofs.serve.Goals.{in-GoesOn, in-Exit, in-LastExit}
use Rattle.execution.proofs.serve.Goals as goal

pub returns-in-Bad : goal.returns-in-Bad
unfolding served_by effect_ram
returns-in-Bad c =
    let s = c.args.setting.now in
    rw (serving _ s.program.platform s.external.now s.window _ _ _ _ _ c.service_of-s.ensures c.ending_on.ensures, c.in-Bad.is) (c.unlisted.ensures, refl)

pub returns : goal.returns
unfolding served_by
returns c =
    let s = c.args.setting.now in
    let by = serving _ s.program.platform s.external.now s.window c.args.r c.args.ram.now _ _ _ c.service_of-s.ensures c.ending_on.ensures in
    elim c.match-ending_on.branch [
      | in-GoesOn w ↦ rw (by, w.in-GoesOn.is, c.ended.ensures, w.end-is, ← c.requires) (ends _ _ goes_on_lem _ _ _ _ _ _ c.serve-did.ensures)
      | in-Exit w ↦ rw (by, w.in-Exit.is, c.ended.ensures, w.end-is, w.exit_end.ensures, ← c.requires) (ends _ _ (exits_so _) _ _ _ _ _ _ c.serve-did.ensures)
      | in-LastExit w ↦ rw (by, w.in-LastExit.is, c.ended.ensures, w.end-is, w.exit_end-in-LastExit.ensures) (ends _ _ (exits_so _) _ _ _ _ _ _ c.serve-did.ensures)
    ]
