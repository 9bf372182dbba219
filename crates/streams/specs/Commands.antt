-- What a command does whose streams' bytes are known.
use Rattle.std.specs.Prelude.{ℕ, ◌≤◌, ◌<◌, List, length, take, Option, MatchOption}
use Rattle.std.specs.Io.KnownBytes.{Keeps, Consumes, Appends, IsAtEnd}

-- it takes some bytes from its input, all where there are fewer than a number of them, and adds the first of the text for those to
-- its output, so many as it answers; where a read failed, it adds nothing
abbrev pub Answers : (List ℕ → List ℕ) → ℕ → (input input_after output output_after : Option (List ℕ)) → Option ℕ → Type 0
Answers text_of most input input_after output output_after answer =
    MatchOption answer
    (Keeps output output_after)
    (λ n. (taken : List ℕ) × (length taken ≤ most) × Consumes input input_after taken × (length taken < most → IsAtEnd input_after)
    × Appends output output_after (take n (text_of taken)))
