use mathlib.Core.Path.{◌≡◌, ◌∙◌, ap}
use Prim.Native.Nat.{ℕ, ◌%◌, ◌^◌}
use native.Mathlib.Nat.{div-one, mod-lt}
use native.Mathlib.Omega.{arith}
use lib.Pow.{pow_pos}
use Rattle.bits.proofs.Laws.{shift_or, join_past}
use Rattle.bits.proofs.joined.Goals as goal

pub returns-then-n-ge32 : goal.returns-then-n-ge32
returns-then-n-ge32 c = join_past c.args.high c.args.low c.args.n (omega arith) (omega arith)

pub returns : goal.returns
returns c =
    let a = c.args in
    let e : c.field.result ≡ a.low % 2 ^ a.n = c.field.ensures ∙ ap (λ (m : ℕ). m % 2 ^ a.n) (div-one a.low) in
    rw e (shift_or a.high a.n (a.low % 2 ^ a.n) 32 (omega arith) (mod-lt a.low (pow_pos a.n)))
