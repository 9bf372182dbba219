-- Places: what stands at one, and fit places.
use Rattle.std.specs.Prelude.{ℕ, ◌+◌, ◌/◌, ◌%◌, Bool, not, ◌&&◌, ◌||◌, cond, List, eqb, ltb}
use Rattle.page.specs.Page.{bundles_in, first_of, second_of}
use Rattle.platform.specs.Programs.{Program, encodings_in, decode16_in}
use Rattle.isa.specs.ListedEncodings.{opens32}
use Rattle.isa.specs.Profiles.{Encodings, decode16_by, decode32_by}
use Rattle.isa.specs.declared.Instruction.{Instruction}
use Rattle.isa.specs.declared.Instruction.TheVariants.{Unlisted}
use Rattle.flow.specs.Flow.{terminator}
use Rattle.count.specs.Count.{count_program}

-- an even place is the first half of its bundle, an odd one the second
abbrev pub is_even : ℕ → Bool
is_even place = eqb (place % 2) 0

-- of a bundle's halfwords, by a set of listed encodings: a 32-bit instruction stands in the first half alone, and nothing in the
-- second half of one
unfoldable pub stands_in : Encodings → Bool → ℕ → ℕ → Instruction
stands_in encodings even first second =
    cond (opens32 first) (cond even (decode32_by encodings first second) Unlisted) (decode16_by encodings (cond even first second))

-- at a place; past the page nothing stands
unfoldable pub instruction_at : Program → ℕ → Instruction
instruction_at program place =
    let page = program.page in
    cond (ltb (place / 2) (bundles_in page))
    (stands_in (encodings_in program) (is_even place) (first_of page (place / 2)) (second_of page (place / 2)))
    Unlisted

-- the place behind an instruction of 32 or 16 bits
unfoldable pub following : List ℕ → ℕ → ℕ
following page place = place + cond (opens32 (first_of page (place / 2))) 2 1

-- ---- fit places

-- of a bundle's halfwords: two 16-bit instructions whose first is no terminator
unfoldable pub second_fits : Program → ℕ → ℕ → Bool
second_fits program first second = not (opens32 first) && not (opens32 second) && not (terminator program (decode16_in program first))

-- fit by a count: its bundle lies below it; an odd place also needs such a bundle
unfoldable pub fit_below : Program → ℕ → ℕ → Bool
fit_below program count place =
    ltb (place / 2) count
    && (is_even place || second_fits program (first_of program.page (place / 2)) (second_of program.page (place / 2)))

-- the build paper's fit place: by the program's own count
abbrev pub fit_place : Program → ℕ → Bool
fit_place program place = fit_below program (count_program program).count place
