use mathlib.Core.Path.{◌≡◌, sym}
use Prim.Native.Nat.{◌≤◌}
use native.Mathlib.Omega.{arith}
use lib.ListN.{length, take}
use lib.Seq.{length-take-le}
use Rattle.std.proofs.Common.{rules}
use Rattle.streams.proofs.Shown.{shown_of}
use Rattle.streams.proofs.run.Goals as goal

pub slice_bounds-write_output-end : goal.slice_bounds-write_output-end
slice_bounds-write_output-end g c = (shown_of _ _ c.write.ensures.0 c.write.ensures.1 c.unwrap_or-written.ensures).0

pub slice_bounds-write_output-end-2 : goal.slice_bounds-write_output-end-2
slice_bounds-write_output-end-2 g c = sym (length-take-le _ _ (slice_bounds-write_output-end g c))

pub returns : goal.returns
returns g c =
    let n = c.in_ok-n.n in
    let place = c.read_input.new.room in
    let taken = take n place in
    let count : length taken ≡ n = length-take-le n place (search rules) in
    let written = shown_of _ _ c.write.ensures.0 c.write.ensures.1 c.unwrap_or-written.ensures in
    let fits : c.write_output.result ≤ c.unwrap_or-written.result = omega (arith, c.write_output.ensures.count, length-take-le _ _ written.0) in (
      taken,
      rw count c.in_ok-n.ensures.count,
      c.in_ok-n.ensures.bytes,
      rw count c.in_ok-n.ensures.end,
      rw (written.1 c.write_output.result fits) at c.write_output.ensures.bytes,
    )
