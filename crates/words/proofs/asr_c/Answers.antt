use mathlib.Core.Path.{◌≡◌, ap, ◌∙◌}
use Prim.Native.Nat.{◌-◌}
use native.Mathlib.Omega.{arith}
use borrow.Author.Tests.{ne_eqb}
use mir.Syntax.{w64}
use mir.Val.{to_z, of_z}
use Rattle.bits.specs.Integers.{SInt, low_word}
use Rattle.words.specs.Shifts.{odd}
use Rattle.words.proofs.Integers.{word, in_range}
use Rattle.words.proofs.Shifts.{shifted_lem, one_less}
use Rattle.words.proofs.asr_c.Goals as goal

pub returns : goal.returns
returns c =
    let n = c.args.n in
    let z = (in_range c.args.x (omega arith)).0 in
    let k = c.min-m.ensures in
    -- the integer that is shifted is the word's
    let handed : to_z w64 (of_z w64 c.sign_extended-z.result) ≡ SInt 32 c.args.x =
    word c.args.x c.sign_extended-z.result (omega arith) c.sign_extended-z.type_inv c.sign_extended-z.ensures in
    let value = shifted_lem n 32 c.shifted_right.type_inv c.shifted_right.ensures handed z k (omega arith) in
    let e = c.shifted_right-2 in
    let carry = shifted_lem (n - 1) 31 e.type_inv e.ensures handed z (one_less n k) (omega arith) in
    rw (ne_eqb _ _ c.if-n-eq0.false)
    (λ i. record {
      value = (c.low_word.ensures ∙ ap low_word value) i;
      carry = (c.is_odd.ensures ∙ ap odd carry) i;
    })
