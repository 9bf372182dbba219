use Rattle.hosting.proofs.Laws.{none_crosses}
use Rattle.hosting.proofs.run_bytes.Goals as goal

pub returns-in-Err : goal.returns-in-Err
returns-in-Err g c =
    let s = c.args in
    let held = c.holds_record-held in
    none_crosses s.bytes.now held.result held.ensures (λ r. g.S.Runs.run_of s.what.now s.budget r s.ram.now) s.ram.now c.no_record.result
    (g.S.Runs.areas_of s.what.now s.ram.now) _ _ c.in-Err.is c.of_areas.ensures c.no_record.ensures
