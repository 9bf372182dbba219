-- A listing that grows line by line, and what the reader and the count answer.
use mathlib.Core.Path.{◌≡◌, refl, sym, ap, ◌∙◌}
use mathlib.Core.Bool.{true}
use mathlib.Core.List.{List, [], ◌++◌, append_assoc, append-nil}
use Prim.Native.Nat.{ℕ, zero, suc, ◌+◌, ◌<◌}
use native.Mathlib.Nat.{add-zero}
use native.Mathlib.Numerals.{add-one}
use native.Mathlib.Omega.{arith}
use lib.Dec.{ltb}
use Rattle.std.specs.Prelude.{Result, Ok, Err}
use Rattle.std.specs.Result.{result_unwrap_or}
use Rattle.prefix.specs.declared.LargestSuccessor.{LargestSuccessor}
use Rattle.prefix.specs.declared.LargestSuccessor.TheVariants.{Bad}
use Rattle.refusal.specs.declared.Refusal.{Refusal}
use Rattle.refusal.specs.Refusals.{accepted, refusal_number, refusal_values}
use Rattle.refusal.proofs.Theorems.{passes_lem}
use Rattle.page.specs.Page.{page_fits, bundles_in, first_of, second_of}
use Rattle.platform.specs.Programs.{default_program}
use Rattle.platform.proofs.Theorems.{program_accepts}
use Rattle.prefix.specs.LargestSuccessor.{reading_of}
use Rattle.bundle.specs.Reader.{ReaderAnswer, read_bundle, seen_read}
use Rattle.bundle.proofs.Theorems.{read_accepted}
use Rattle.count.specs.Count.{count_of, CountAnswer, count_program, seen_count}
use Rattle.refusal_line.specs.RefusalLine.{refused_text}
use Rattle.lister_lines.specs.Lines.{head_text, bundle_text}
use Rattle.listing.specs.Listing.{line_of, bundle_lines, listing_by, listing_of}

-- ---- the lines of the bundles passed

one_more : (page : List ℕ) (k n : ℕ) → bundle_lines page k (suc n) ≡ bundle_lines page k n ++ line_of page (k + n)
unfolding bundle_lines
one_more page k zero = rw (add-zero k) (append-nil (line_of page k))
one_more page k (suc n) =
    let e : suc k + n ≡ k + suc n = omega arith in
    let rest = one_more page (suc k) n ∙ ap (λ (j : ℕ). bundle_lines page (suc k) n ++ line_of page j) e in
    ap (λ (lines : List ℕ). line_of page k ++ lines) rest
    ∙ sym (append_assoc (line_of page k) (bundle_lines page (suc k) n) (line_of page (k + suc n)))

-- a turn of the loop
pub line_more : (page : List ℕ) (k : ℕ) → bundle_lines page 0 (k + 1) ≡ bundle_lines page 0 k ++ line_of page k
line_more page k =
    let z : 0 + k ≡ k = omega arith in
    rw (add-one k, one_more page 0 k, z)

-- ---- what the reader and the count answer

pub line_is : {first second count : ℕ} {largest : LargestSuccessor} (page : List ℕ) (k : ℕ) (read : Result LargestSuccessor Refusal)
    → page_fits page ≡ true → count ≡ count_of (default_program page) → k < bundles_in page
    → first ≡ first_of page k → second ≡ second_of page k
    → seen_read read ≡ read_bundle (default_program page) k → largest ≡ result_unwrap_or read Bad
    → bundle_text k first second (ltb k count) (reading_of largest) ≡ line_of page k
line_is page k read f c l p q r e = rw (p, q, c, e, ap (λ (a : ReaderAnswer). a.reading) r, read_accepted (default_program page) k (program_accepts (default_program page) refl f) l)

pub accepted_count : {count : ℕ} (page : List ℕ) → seen_count (Ok count) ≡ count_program (default_program page)
    → (page_fits page ≡ true) × (count ≡ count_of (default_program page))
accepted_count page e =
    let f = (passes_lem (page_fits page) 1 [] accepted (sym (ap (λ (a : CountAnswer). a.decision) e))).0 in
    (f, ap (λ (a : CountAnswer). a.count) e ∙ rw f)

pub listing_accepted : {count : ℕ} (page : List ℕ) → seen_count (Ok count) ≡ count_program (default_program page)
    → head_text (bundles_in page) count ++ bundle_lines page 0 (bundles_in page) ≡ listing_of page
listing_accepted page e = rw (accepted_count page e).1 (ap (λ (a : CountAnswer). listing_by page a.decision) e)

pub listing_refused : (refusal : Refusal) (page : List ℕ) → seen_count (Err refusal) ≡ count_program (default_program page)
    → refused_text (refusal_number refusal) (refusal_values refusal) ≡ listing_of page
listing_refused refusal page e = ap (λ (a : CountAnswer). listing_by page a.decision) e
