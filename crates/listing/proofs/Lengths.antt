-- A listing has at most 65 lines, of at most 36 bytes.
use mathlib.Core.Path.{◌≡◌, refl}
use mathlib.Core.Bool.{Bool, true, false, not, cond}
use mathlib.Core.List.{List, []}
use Prim.Native.Nat.{ℕ, zero, suc, ◌*◌, ◌≤◌}
use native.Mathlib.Omega.{arith}
use lib.ListN.{length, length-append}
use Rattle.refusal.specs.Refusals.{accepted, refused}
use Rattle.page.specs.Page.{page_fits, bundles_in}
use Rattle.platform.specs.Programs.{default_program}
use Rattle.page.proofs.Theorems.{fitting}
use Rattle.count.specs.Count.{count_of}
use Rattle.refusal_line.proofs.Lengths.{refused_length}
use Rattle.lister_lines.proofs.Lengths.{head_length, line_length}
use Rattle.listing.specs.Listing.{line_of, bundle_lines, listing_by, listing_of}

lines_length : (page : List ℕ) (k n : ℕ) → length (bundle_lines page k n) ≤ 36 * n
unfolding bundle_lines
lines_length page k zero = omega arith
lines_length page k (suc n) =
    let line : length (line_of page k) ≤ 36 = line_length _ _ _ _ _ in
    simp length-append (omega (arith, lines_length page (suc k) n))

by_fit : (page : List ℕ) (fits : Bool) → page_fits page ≡ fits
    → length (listing_by page (cond (not fits) (refused 1 []) accepted)) ≤ 36 * 65
by_fit page true e =
    simp length-append
    (omega (arith, fitting page e, head_length (bundles_in page) (count_of (default_program page)), lines_length page 0 (bundles_in page)))
by_fit page false e = omega (arith, refused_length 1 [])

pub listing_length : (page : List ℕ) → length (listing_of page) ≤ 36 * 65
listing_length page = by_fit page (page_fits page) refl
