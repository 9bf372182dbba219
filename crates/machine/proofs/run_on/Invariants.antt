use Prim.Native.Nat.{◌-◌}
use lib.ListN.{length}
use mathlib.Core.Path.{◌≡◌}
use Rattle.platform.specs.Programs.{seen_setting}
use Rattle.plain.specs.PlainMachine.{plain}
use Rattle.instruction.specs.Instructions.{instruction_of}
use Rattle.machine.proofs.run_on.Given as goal

abbrev pub invariant-loop-steps : goal.invariant-loop-steps
invariant-loop-steps l = (plain (instruction_of (seen_setting l.setting)) (l.budget - l.steps) l.steps l.r l.ram ≡ plain (instruction_of (seen_setting l.setting)) l.budget 0 l.initial.r l.initial.ram)
    × (length l.r.regs ≡ 8)
