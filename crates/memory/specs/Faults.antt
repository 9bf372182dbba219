-- Faults and their numbers.
use Rattle.std.specs.Prelude.{ℕ}
use Rattle.memory.specs.declared.Fault.{Fault}
use Rattle.memory.specs.declared.Fault.TheVariants.{NoBase, PastRam, OffExternalPage, PastStack, LowStack, PastPage, OutsideWindow}

-- 1 no base, or external base where RAM is needed; 2 past RAM; 3 off the external page; 4 stack access past 0x18000;
-- 5 SP below 0x10000; 6 literal load past the page; 7 an access to RAM that isn't wholly inside the window
abbrev pub fault_number : Fault → ℕ
fault_number NoBase = 1
fault_number PastRam = 2
fault_number OffExternalPage = 3
fault_number PastStack = 4
fault_number LowStack = 5
fault_number PastPage = 6
fault_number OutsideWindow = 7
