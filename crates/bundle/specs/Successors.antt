-- The successors of a bundle: bad, or at most three, ascending and without repeats.
use Rattle.std.specs.Prelude.{ℕ, ◌+◌, ◌*◌, ◌≤◌, Bool, cond, List, [], ◌∷◌, length}
use Rattle.prefix.specs.Prefix.{Successors, bad, goes}
use Rattle.prefix.specs.LargestSuccessor.{insert, Ascending}
use Rattle.page.specs.Page.{first_of, second_of}
use Rattle.platform.specs.Programs.{Program, decode16_in, decode32_in}
use Rattle.isa.specs.ListedEncodings.{opens32}
use Rattle.isa.specs.declared.Instruction.{Instruction}
use Rattle.flow.specs.Flow.{flow_of, listed}
use Rattle.flow.specs.declared.Flow.{Flow}
use Rattle.flow.specs.declared.Flow.TheVariants.{Bad, Next, NextOr, To, Ends}

-- the second instruction, behind a first one that goes on and has the targets bs
abbrev pub after_second : List ℕ → Flow → ℕ → Successors
after_second bs Bad next = bad
after_second bs Ends next = goes bs
after_second bs (To b) next = goes (insert b bs)
after_second bs Next next = goes (insert next bs)
after_second bs (NextOr b) next = goes (insert b (insert next bs))

-- behind a terminator the second must match a listed encoding, and brings no successor
abbrev pub after_first : Flow → Bool → Flow → ℕ → Successors
after_first Bad second_listed second next = bad
after_first Ends second_listed second next = cond second_listed (goes []) bad
after_first (To b) second_listed second next = cond second_listed (goes (b ∷ [])) bad
after_first Next second_listed second next = after_second [] second next
after_first (NextOr b) second_listed second next = after_second (b ∷ []) second next

-- one 32-bit instruction
abbrev pub wide : Instruction → ℕ → Successors
wide i next = cond (listed i) (goes (next ∷ [])) bad

-- two 16-bit instructions of bundle k, at places 2k and 2k+1
abbrev pub narrow : Program → ℕ → Instruction → Instruction → Successors
narrow program k i j = after_first (flow_of program (2 * k) i) (listed j) (flow_of program (2 * k + 1) j) (k + 1)

-- a 32-bit opening after a 16-bit first half makes the bundle bad
unfoldable pub successors_of : Program → ℕ → Successors
successors_of program k =
    let first = first_of program.page k in
    let second = second_of program.page k in
    cond (opens32 first) (wide (decode32_in program first second) (k + 1))
    (cond (opens32 second) bad (narrow program k (decode16_in program first) (decode16_in program second)))

-- at most three, ascending and without repeats
abbrev pub Few : Successors → Type 0
Few bad = Unit {0}
Few (goes ss) = (length ss ≤ 3) × Ascending ss
