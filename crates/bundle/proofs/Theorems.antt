-- What the reader answers of a bundle of a program that isn't refused; a bundle's successors are few.
use mathlib.Core.Path.{◌≡◌, sym}
use mathlib.Core.Bool.{Bool, true, false, cond}
use mathlib.Core.List.{List, [], ◌∷◌}
use Prim.Native.Nat.{ℕ, suc, ◌+◌, ◌*◌, ◌≤◌, ◌<◌}
use native.Mathlib.Omega.{arith}
use lib.ListN.{length}
use borrow.Author.Tests.{lt-leb}
use Rattle.refusal.specs.Refusals.{accepted, decision}
use Rattle.refusal.proofs.Theorems.{after_lem}
use Rattle.page.specs.Page.{bundles_in, first_of, second_of}
use Rattle.platform.specs.Programs.{Program, decode16_in, decode32_in, program_rules}
use Rattle.prefix.specs.Prefix.{Successors, bad, goes}
use Rattle.prefix.specs.LargestSuccessor.{largest_successor, insert, Ascending}
use Rattle.prefix.proofs.Successors.{insert_ascending, insert_length}
use Rattle.isa.specs.ListedEncodings.{opens32}
use Rattle.flow.specs.Flow.{flow_of, listed}
use Rattle.bundle.specs.Successors.{after_second, after_first, wide, narrow, successors_of, Few}
use Rattle.flow.specs.declared.Flow.{Flow}
use Rattle.flow.specs.declared.Flow.TheVariants.{Bad, Next, NextOr, To, Ends}
use Rattle.bundle.specs.Reader.{bundle_rule, read_bundle}

-- a bundle of a program that isn't refused is read
pub read_accepted : (program : Program) (k : ℕ) → decision (program_rules program) ≡ accepted → k < bundles_in program.page
    → (read_bundle program k).reading ≡ largest_successor (successors_of program k)
read_accepted program k a l = rw (after_lem (program_rules program) (bundle_rule program.page k ∷ []) accepted (sym a), lt-leb (bundles_in program.page) k l)

-- ---- at most three successors, ascending and without repeats

either_few : (t : Bool) (a b : Successors) → Few a → Few b → Few (cond t a b)
either_few true a b p q = p
either_few false a b p q = q

-- one more successor
one_more : (s n : ℕ) (ss : List ℕ) → (length ss ≤ n) × Ascending ss → (length (insert s ss) ≤ suc n) × Ascending (insert s ss)
one_more s n ss h = (omega (arith, insert_length s ss), insert_ascending s ss h.1)

more : {m n : ℕ} (ss : List ℕ) → m ≤ n → (length ss ≤ m) × Ascending ss → (length ss ≤ n) × Ascending ss
more ss l h = (omega arith, h.1)

few_second : (bs : List ℕ) (second : Flow) (next : ℕ) → (length bs ≤ 1) × Ascending bs → Few (after_second bs second next)
few_second bs Bad next h = tt
few_second bs Ends next h = more bs (omega arith) h
few_second bs (To b) next h = more (insert b bs) (omega arith) (one_more b 1 bs h)
few_second bs Next next h = more (insert next bs) (omega arith) (one_more next 1 bs h)
few_second bs (NextOr b) next h = one_more b 2 (insert next bs) (one_more next 1 bs h)

few_first : (first : Flow) (second_listed : Bool) (second : Flow) (next : ℕ) → Few (after_first first second_listed second next)
few_first Bad l second next = tt
few_first Ends l second next = either_few l (goes []) bad (omega arith, tt) tt
few_first (To b) l second next = either_few l (goes (b ∷ [])) bad (omega arith, (tt, tt)) tt
few_first Next l second next = few_second [] second next (omega arith, tt)
few_first (NextOr b) l second next = few_second (b ∷ []) second next (omega arith, (tt, tt))

pub at_most_three : (program : Program) (k : ℕ) → Few (successors_of program k)
unfolding successors_of
at_most_three program k =
    let first = first_of program.page k in
    let second = second_of program.page k in
    let w = decode32_in program first second in
    let i = decode16_in program first in
    let j = decode16_in program second in
    either_few (opens32 first) (wide w (k + 1)) (cond (opens32 second) bad (narrow program k i j))
    (either_few (listed w) (goes ((k + 1) ∷ [])) bad (omega arith, (tt, tt)) tt)
    (either_few (opens32 second) bad (narrow program k i j) tt
    (few_first (flow_of program (2 * k) i) (listed j) (flow_of program (2 * k + 1) j) (k + 1)))
