use native.Mathlib.Omega.{arith}
use mathlib.Core.Path.{◌≡◌, sym, ◌∙◌}
use Prim.Native.Nat.{◌-◌}
use Rattle.platform.specs.Programs.{seen_setting}
use Rattle.instruction.specs.Instructions.{instruction_of}
use Rattle.plain.proofs.Theorems.{spent}
use Rattle.execution.proofs.Laws.{behind_near, stands}
use Rattle.machine.proofs.Laws.{turns, data_inside, registered, registered_length, set_written, none_written, data_turn}
use borrow.Author.Rules.{rules}
use Rattle.machine.proofs.run_on.Goals as goal
use Rattle.machine.proofs.run_on.Goals.{in-Data, in-Some, in_default-register, in_default+in-GoesOn}

pub overflow_cast-next : goal.overflow_cast-next
overflow_cast-next c =
    let h = data_inside _ _ _ (sym c.instruction_at-i.ensures ∙ c.in-Data.is) in
    omega (arith, h, c.requires, behind_near _ _ _ c.next_place-next.ensures)

pub loop-steps-preserved : goal.loop-steps-preserved
loop-steps-preserved c =
    let kept = c.loop-steps.invariant in
    let r = c.loop-steps.r in
    elim c.match-i.branch [
      | in-Data w ↦
          let written : w.match-c.r ≡ registered r w.compute-c.result.register =
          elim w.match-c.branch [
            | in-Some v ↦ v.r-is ∙ set_written r _ _ _ _ v.in-Some.is kept.1 v.set_in.ensures
            | in_default-register v ↦ v.r-is ∙ none_written r _ v.in_default-register.is
          ]
          in
          rw (w.r-is, w.ram-is) (
            data_turn _ _ _ _ _ _ _ _ _ _ c.loop-steps-test.true (sym c.instruction_at-i.ensures ∙ w.in-Data.is) w.compute-c.ensures w.next_place-next.ensures written kept.0,
            registered_length r _ w.compute-c.result.register written kept.1,
          )
      | in_default+in-GoesOn w ↦
          rw (w.r-is, w.ram-is) (
            turns _ _ _ _ _ _ _ _ _ _ _ c.loop-steps-test.true (stands _ _ _ c.requires c.instruction_at-i.ensures w.in_default.not-Data) w.execute-x.ensures w.in-GoesOn.is w.applied-r.ensures kept.0,
            search rules,
          )
    ]

pub returns-in-Exits : goal.returns-in-Exits
returns-in-Exits c = rw c.stopped.ensures (turns _ _ _ _ _ _ _ _ _ _ _ c.loop-steps-test.true (stands _ _ _ c.requires c.instruction_at-i.ensures c.in_default.not-Data) c.execute-x.ensures c.in-Exits.is c.applied-r.ensures c.loop-steps.invariant.0)

pub returns-in-ExitsBy : goal.returns-in-ExitsBy
returns-in-ExitsBy c = rw c.stopped-in-ExitsBy.ensures (turns _ _ _ _ _ _ _ _ _ _ _ c.loop-steps-test.true (stands _ _ _ c.requires c.instruction_at-i.ensures c.in_default.not-Data) c.execute-x.ensures c.in-ExitsBy.is c.applied-r.ensures c.loop-steps.invariant.0)

pub returns-in-Fails : goal.returns-in-Fails
returns-in-Fails c = rw c.stopped-in-Fails.ensures (turns _ _ _ _ _ _ _ _ _ _ _ c.loop-steps-test.true (stands _ _ _ c.requires c.instruction_at-i.ensures c.in_default.not-Data) c.execute-x.ensures c.in-Fails.is c.applied-r.ensures c.loop-steps.invariant.0)

pub returns-in-Unlisted : goal.returns-in-Unlisted
returns-in-Unlisted c = rw c.stopped-in-Unlisted.ensures (turns _ _ _ _ _ _ _ _ _ _ _ c.loop-steps-test.true (stands _ _ _ c.requires c.instruction_at-i.ensures c.in_default.not-Data) c.execute-x.ensures c.in-Unlisted.is c.applied-r.ensures c.loop-steps.invariant.0)

pub returns : goal.returns
returns c =
    let l = c.loop-steps in
    let e : l.steps ≡ c.args.budget = omega (arith, l.auto.steps-end) in
    rw c.stopped-2.ensures (rw e at (sym (spent (instruction_of (seen_setting c.args.setting.now)) (c.args.budget - l.steps) l.steps l.r l.ram (omega arith)) ∙ l.invariant.0))
