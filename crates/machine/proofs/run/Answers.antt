use mathlib.Core.Path.{◌∙◌}
use Rattle.platform.specs.Programs.{seen_setting}
use Rattle.plain.proofs.Calls.{accepted_call}
use Rattle.instruction.specs.Instructions.{instruction_of}
use Rattle.machine.proofs.Laws.{page_accepted}
use Rattle.machine.proofs.run.Goals as goal

pub returns-in-Ok : goal.returns-in-Ok
returns-in-Ok c =
    let s = c.args in
    let setting = seen_setting s.setting.now in
    let decided = c.verdict_of in
    let told = c.in-Ok.is in
    accepted_call (instruction_of setting) s.budget s.r s.ram.now decided.result _ decided.ensures _ told
    (c.run_admitted.ensures ∙ rw (page_accepted setting s.r s.ram.now decided.result decided.ensures told))
