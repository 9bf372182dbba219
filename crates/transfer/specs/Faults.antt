-- Faults of a transfer and their numbers.
use Rattle.std.specs.Prelude.{ℕ}
use Rattle.memory.specs.Faults.{fault_number}
use Rattle.transfer.specs.declared.TransferFault.{TransferFault}
use Rattle.transfer.specs.declared.TransferFault.TheVariants.{Memory, UnfitPlace, LowFrame, UnfitFrame}

-- 8 called or returned-to place not fit; 9 frame or SP move of a call below 0x10000; 10 a saved FP that fails the frame test. A fault that
-- the access to a frame meets keeps its number
abbrev pub transfer_fault_number : TransferFault → ℕ
transfer_fault_number (Memory fault) = fault_number fault
transfer_fault_number UnfitPlace = 8
transfer_fault_number LowFrame = 9
transfer_fault_number UnfitFrame = 10
