-- Services: what DFxx means by its low byte and, for 01-7F, by the literal word at that bundle number.
use Rattle.std.specs.Prelude.{ℕ, Bool, cond, ◌&&◌, List, ltb, leb}
use Rattle.bits.specs.Fields.{bits}
use Rattle.page.specs.Page.{bundles_in, word_at}
use Rattle.literal.specs.declared.Service.{Service}
use Rattle.literal.specs.declared.Service.TheVariants.{Return, LowerSp, DirectSyscall, Validate, Breakpoint, CallRegister, TailCallRegister, Bad}
use Rattle.literal.specs.Literals.{literal_of}

-- the literal word must lie in the page
unfoldable pub literal_service : List ℕ → ℕ → Service
literal_service page n = cond (ltb n (bundles_in page)) (literal_of (word_at page n)) Bad

-- ---- the low byte: 00, 01-7F, 80-BF, C0-DF, E0-E7, E8, E9-EF, F0-F7, F8-FF

-- a literal counts for 01-7F only
abbrev pub takes_literal : ℕ → Bool
takes_literal n = leb 0x01 n && leb n 0x7F

-- where the literal word means what is given
unfoldable pub by_low_byte : ℕ → Service → Service
by_low_byte n meant =
    cond (leb n 0x00) Return
    (cond (leb n 0x7F) meant
    (cond (leb n 0xBF) (DirectSyscall (bits n 5 0))
    (cond (leb n 0xDF) (LowerSp (bits n 4 0))
    (cond (leb n 0xE7) (Validate (bits n 2 0))
    (cond (leb n 0xE8) Breakpoint
    (cond (leb n 0xEF) Bad
    (cond (leb n 0xF7) (CallRegister (bits n 2 0)) (TailCallRegister (bits n 2 0)))))))))

-- in a page
unfoldable pub service_of : List ℕ → ℕ → Service
service_of page n = by_low_byte n (literal_service page n)
