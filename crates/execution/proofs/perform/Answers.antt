use native.Mathlib.Omega.{arith}
use mathlib.Core.Path.{refl}
use mathlib.Core.Logic.{inl, inr}
use Rattle.instruction.specs.Instructions.{effect_of}
use Rattle.execution.specs.Executed.{not_data, effect_ram}
use Rattle.execution.proofs.Laws.{behind_near, goes_on_lem, ends, branch_ram, branch_if_ram}
use Rattle.execution.proofs.perform.Goals as goal

pub overflow_cast-next : goal.overflow_cast-next
overflow_cast-next c = omega (arith, c.requires, behind_near _ _ _ c.next_place-next.ensures)

pub returns-in-Data : goal.returns-in-Data
unfolding not_data effect_of effect_ram
returns-in-Data c = elim c.in-Data.is [
  | inl e ↦ rw e.1 (c.unlisted.ensures, refl)
  | inr e ↦ rw e (c.unlisted.ensures, refl)
]

pub returns-in-Memory : goal.returns-in-Memory
unfolding not_data effect_of
returns-in-Memory c = rw (c.in-Memory.is, c.ended.ensures, ← c.next_place-next.ensures) (ends _ _ goes_on_lem _ _ _ _ _ _ c.perform.ensures)

pub returns-in-Cbz : goal.returns-in-Cbz
unfolding not_data effect_of
returns-in-Cbz c = rw (c.in-Cbz.is, ← c.next_place-next.ensures, ← c.register_of.ensures) (c.compared.ensures _, branch_if_ram _ _ _ _ _)

pub returns-in-Cbnz : goal.returns-in-Cbnz
unfolding not_data effect_of
returns-in-Cbnz c = rw (c.in-Cbnz.is, ← c.next_place-next.ensures, ← c.register_of-in-Cbnz.ensures) (c.compared-in-Cbnz.ensures _, branch_if_ram _ _ _ _ _)

pub returns-in-Bcc : goal.returns-in-Bcc
unfolding not_data effect_of
returns-in-Bcc c = rw (c.in-Bcc.is, ← c.next_place-next.ensures) (c.bcc.ensures _, branch_if_ram _ _ _ _ _)

pub returns-in-B : goal.returns-in-B
unfolding not_data effect_of
returns-in-B c = rw c.in-B.is (c.b.ensures _, branch_ram _ _ _)

pub returns-in-Service : goal.returns-in-Service
unfolding not_data effect_of
returns-in-Service c = rw c.in-Service.is c.serve.ensures
