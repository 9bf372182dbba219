-- A turn of the single pass, by what the reader answers.
use mathlib.Core.Path.{◌≡◌, ◌∙◌}
use mathlib.Core.Bool.{cond}
use Prim.Native.Nat.{ℕ, ◌<◌}
use Rattle.refusal.specs.Refusals.{accepted, decision}
use Rattle.page.specs.Page.{bundles_in}
use Rattle.platform.specs.Programs.{Program, program_rules}
use Rattle.prefix.specs.Prefix.{Successors, within}
use Rattle.prefix.specs.LargestSuccessor.{largest_successor, reading_of}
use Rattle.prefix.specs.declared.LargestSuccessor.{LargestSuccessor}
use Rattle.bundle.specs.Successors.{successors_of}
use Rattle.bundle.specs.Reader.{read_bundle}
use Rattle.bundle.proofs.Theorems.{read_accepted}

pub turn : (program : Program) (k bound next : ℕ) (read : LargestSuccessor) → decision (program_rules program) ≡ accepted → k < bundles_in program.page
    → reading_of read ≡ (read_bundle program k).reading
    → ((x : Successors) → reading_of read ≡ largest_successor x → next ≡ cond (within bound x) bound k)
    → next ≡ cond (within bound (successors_of program k)) bound k
turn program k bound next read f l r e = e (successors_of program k) (r ∙ read_accepted program k f l)
