use mathlib.Core.Path.{◌≡◌}
use Rattle.platform.specs.Programs.{seen_program}
use Rattle.prefix.specs.Prefix.{scan_back}
use Rattle.bundle.specs.Successors.{successors_of}
use Rattle.count.specs.Count.{count_of}
use Rattle.count.proofs.count.Given as goal

abbrev pub invariant-loop-k : goal.invariant-loop-k
invariant-loop-k l = let program = seen_program l.program in scan_back (successors_of program) l.k l.bound ≡ count_of program
