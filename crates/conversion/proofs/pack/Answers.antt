use native.Mathlib.Omega.{arith}
use lib.ListN.{replicate}
use Rattle.conversion.proofs.Laws.{pack_refused, pack_accepted}
use Rattle.conversion.proofs.pack.Goals as goal

pub returns-in-Ok : goal.returns-in-Ok
returns-in-Ok c =
    let packed = c.in-Ok.ensures in
    rw (c.first.ensures, c.pack.ensures.1, pack_accepted c.args.stored.now (replicate 49 0) (λ k. (c.type_inv.stored k).fits) (omega arith) c.in-Ok.length packed.0)
    at c.place.ensures

pub returns-in-Err : goal.returns-in-Err
returns-in-Err c =
    rw (pack_refused c.args.stored.now (replicate 49 0) (λ k. (c.type_inv.stored k).fits) (omega arith) c.in-Err.why c.in-Err.ensures.0)
    at c.place_refusal.ensures
