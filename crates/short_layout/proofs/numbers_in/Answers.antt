use mathlib.Core.Path.{◌≡◌, refl, sym, ap, ◌∙◌}
use Prim.Native.Nat.{◌-◌, ◌≤◌}
use native.Mathlib.Omega.{arith}
use borrow.Author.Tests.{eq-eqb, ne_eqb}
use lib.ListN.{length, length-set}
use Rattle.leb128.specs.Leb128.{number, seen_found}
use Rattle.short_layout.specs.ShortForm.{numbers_in, held_by}
use Rattle.short_layout.proofs.Laws.{taken, found, read_turn, not_read, read_end}
use Rattle.short_layout.proofs.numbers_in.Goals as goal

pub loop-i-init : goal.loop-i-init
unfolding numbers_in
loop-i-init c = record { inside = omega arith; size = refl; same = refl }

pub returns-in_err-n : goal.returns-in_err-n
returns-in_err-n c =
    let l = c.loop-i in
    rw c.from_residual.ensures
    (ap held_by (not_read _ l.numbers l.at l.i (omega arith) l.invariant.same c.field_in.result (sym c.ok.ensures.value ∙ c.in_err-n.was) c.field_in.ensures))

-- the number that a turn reads
here : (c : goal.In_ok-n) → number c.in_ok-n.n c.in_ok-n.taken ≡ seen_found c.field_in.result
here c = found c.field_in.result _ _ (sym c.ok.ensures.value ∙ c.in_ok-n.was)

-- no more than there is
taken_here : (c : goal.In_ok-n) → c.in_ok-n.taken ≤ length c.args.bytes.now - c.loop-i.at
taken_here c = taken _ _ _ _ c.loop-i.at c.args.bytes.now (λ k. (c.type_inv.bytes k).fits) (here c ∙ c.field_in.ensures)

pub overflow_add-at : goal.overflow_add-at
overflow_add-at c = omega (arith, taken_here c)

pub loop-i-preserved : goal.loop-i-preserved
loop-i-preserved c =
    let l = c.loop-i in record {
      inside = omega (arith, taken_here c);
      size = length-set l.numbers l.i _ ∙ l.invariant.size;
      same = read_turn _ l.numbers l.at l.i (omega arith) l.invariant.same _ _ l.invariant.size (here c ∙ c.field_in.ensures);
    }

pub returns-then-at-bytes : goal.returns-then-at-bytes
returns-then-at-bytes c =
    let l = c.loop-i in
    let e = read_end c.args.bytes.now l.numbers l.at l.i (omega arith) l.invariant.inside l.invariant.size l.invariant.same in
    ap held_by (rw (eq-eqb _ _ c.if-at-bytes.true) at e)

pub returns : goal.returns
returns c =
    let l = c.loop-i in
    let e = read_end c.args.bytes.now l.numbers l.at l.i (omega arith) l.invariant.inside l.invariant.size l.invariant.same in
    ap held_by (rw (ne_eqb _ _ c.if-at-bytes.false) at e)
