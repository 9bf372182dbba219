-- Sizes: the page, its bundles and halfwords. A page is the list of its bytes.
use Rattle.std.specs.Prelude.{ℕ, ◌+◌, ◌*◌, ◌/◌, ◌%◌, Bool, not, ◌&&◌, List, [], leb, eqb, length, get_or}
use Rattle.refusal.specs.Refusals.{Rule, rule}

-- the build paper's page: 0 to 256 bytes, a multiple of 4
unfoldable pub page_fits : List ℕ → Bool
page_fits page = leb (length page) 256 && eqb (length page % 4) 0

-- refusal 1
abbrev pub page_rule : List ℕ → Rule
page_rule page = rule (not (page_fits page)) 1 []

-- the build paper's bundles, of 4 bytes each
abbrev pub bundles_in : List ℕ → ℕ
bundles_in page = length page / 4

abbrev pub byte_at : List ℕ → ℕ → ℕ
byte_at page i = get_or page i 0

-- the halfword at a place, which is the build paper's number of a halfword, from 0: lowest byte first
unfoldable pub halfword_at : List ℕ → ℕ → ℕ
halfword_at page place = byte_at page (2 * place) + 256 * byte_at page (2 * place + 1)

-- bundle k is bytes 4k to 4k+3: its first halfword is that at place 2k, its second that at 2k+1
abbrev pub first_of : List ℕ → ℕ → ℕ
first_of page k = halfword_at page (2 * k)

abbrev pub second_of : List ℕ → ℕ → ℕ
second_of page k = halfword_at page (2 * k + 1)

-- the word at bundle k, lowest byte first
unfoldable pub word_at : List ℕ → ℕ → ℕ
word_at page k = first_of page k + 65536 * second_of page k
