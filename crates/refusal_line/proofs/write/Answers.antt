use mathlib.Core.Path.{refl}
use Prim.Native.Nat.{◌≤◌}
use native.Mathlib.Omega.{arith}
use lib.ListN.{length}
use Rattle.refusal.specs.Refusals.{refusal_number, refusal_values}
use Rattle.refusal.proofs.Theorems.{few_values}
use Rattle.text.proofs.Grows.{all_put}
use Rattle.refusal_line.specs.RefusalLine.{refused_text}
use Rattle.refusal_line.proofs.Lengths.{refused_length}
use Rattle.refusal_line.proofs.write.Goals as goal

pub returns : goal.returns
returns g c =
    let r = c.args.refusal in
    let short : length (refused_text (refusal_number r) (refusal_values r)) ≤ 30 =
    omega (arith, refused_length (refusal_number r) (refusal_values r), few_values r) in
    let line = all_put refl short c.put.ensures in
    rw (c.bytes.ensures, line) at c.write_all.ensures.bytes
