-- Demand 2 is met: of any program, and so over any set of listed encodings; and by every call of `count` and of `read_bundle` that meets
-- its contract as the checker reads it.
use Prim.Native.Nat.{ℕ, suc, max}
use native.Mathlib.Nat.{le_refl}
use native.Mathlib.Omega.{arith}
use mathlib.Core.Path.{◌≡◌, refl, ◌∙◌}
use mathlib.Core.Bool.{Bool, true, false}
use mathlib.Core.List.{List, [], ◌∷◌}
use mathlib.Core.Logic.{◌⊎◌, inl, inr, ⊎_elim}
use lib.Dec.{ltb}
use borrow.Author.Tests.{ltb-true, ltb-false, lt-ltb, lt-leb, le-leb}
use Rattle.page.specs.Page.{page_fits, bundles_in}
use Rattle.page.proofs.Theorems.{fitting}
use Rattle.platform.specs.Programs.{Program, program_of}
use Rattle.prefix.specs.Prefix.{Successors, bad, goes, AllBelow}
use Rattle.prefix.specs.LargestSuccessor.{largest_of, largest_successor}
use Rattle.prefix.proofs.Theorems.{true_within, largest_within, unique, definition, single_pass_is, iterates_is}
use Rattle.bundle.specs.Successors.{successors_of}
use Rattle.bundle.specs.Reader.{read_bundle}
use Rattle.count.specs.Count.{count_of, count_program}
use Rattle.claims.specs.Demand2.{IsCount, Counts, OneOf, Says, Reads, Demand2, count_page, count_platform, read_program, CallsMeetDemand2}

-- ---- the count

is_count : (program : Program) → page_fits program.page ≡ true → IsCount program (count_of program)
is_count program fits =
    let g = definition (successors_of program) (bundles_in program.page) in
    let f = fitting program.page fits in
    record {
      greatest = g;
      at_most = omega (arith, g.inside);
      only = λ n h. unique (successors_of program) h g;
      by_single_pass = single_pass_is (successors_of program) (bundles_in program.page);
      by_iteration = iterates_is (successors_of program) (bundles_in program.page);
    }

counts_lem : (program : Program) → Counts program (count_program program)
counts_lem program = record {
  allowed = λ known fits. rw (known, fits) (refl, is_count program fits);
  not_allowed = λ known fits. rw (known, fits) (refl, refl);
  unknown = λ known. rw known (refl, refl);
}

-- ---- the reader

-- the larger of two is one of them
either : (s t : ℕ) → (max s t ≡ s) ⊎ (max s t ≡ t)
either s t = go (ltb s t) refl
  where
    go : (less : Bool) → ltb s t ≡ less → (max s t ≡ s) ⊎ (max s t ≡ t)
    go true e = inr (omega (arith, ltb-true s t e))
    go false e = inl (omega (arith, ltb-false s t e))

largest_one : (s : ℕ) (ss : List ℕ) → OneOf (largest_of s ss) (s ∷ ss)
largest_one s [] = inl refl
largest_one s (t ∷ ts) =
    ⊎_elim (λ e. ⊎_elim (λ f. inl (e ∙ f)) (λ f. inr (inl (e ∙ f))) (either s t)) (λ h. inr (inr h)) (largest_one (max s t) ts)

none_above : (s : ℕ) (ss : List ℕ) → AllBelow (suc (largest_of s ss)) (s ∷ ss)
none_above s ss =
    let n = largest_of s ss in
    true_within (suc n) (goes (s ∷ ss)) (largest_within (suc n) s ss ∙ lt-ltb n (suc n) (le_refl (suc n)))

says : (x : Successors) → Says (largest_successor x) x
says bad = refl
says (goes []) = refl
says (goes (s ∷ ss)) = (s ∷ ss, refl, largest_one s ss, none_above s ss)

reads : (program : Program) (k : ℕ) → Reads program k (read_bundle program k)
reads program k = record {
  inside = λ known fits l. rw (known, fits, lt-leb (bundles_in program.page) k l) (refl, says (successors_of program k));
  past = λ known fits l. rw (known, fits, le-leb (bundles_in program.page) k l) (refl, refl);
  not_allowed = λ known fits. rw (known, fits) (refl, refl);
  unknown = λ known. rw known (refl, refl);
}

-- ---- the demand

pub demand2_of : (program : Program) → Demand2 program
demand2_of program = record { counted = counts_lem program; read = reads program }

-- the contracts are the definitions
pub demand2 : CallsMeetDemand2
demand2 = record {
  counted = λ c. rw c.contract (demand2_of (program_of (count_page c) (count_platform c))).counted;
  read = λ c. rw c.contract ((demand2_of (read_program c)).read c.arguments.1.0);
}
