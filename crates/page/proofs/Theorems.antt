-- What an allowed length comes to.
use mathlib.Core.Path.{◌≡◌}
use mathlib.Core.Bool.{true}
use mathlib.Core.List.{List}
use Prim.Native.Nat.{ℕ, ◌%◌, ◌≤◌}
use lib.Dec.{leb, eqb}
use lib.ListN.{length}
use borrow.Author.Tests.{leb-true, eqb-true}
use Rattle.laws.proofs.Tests.{both}
use Rattle.page.specs.Page.{page_fits}

pub fitting : (page : List ℕ) → page_fits page ≡ true → (length page ≤ 256) × (length page % 4 ≡ 0)
unfolding page_fits
fitting page e =
    let h = both (leb (length page) 256) (eqb (length page % 4) 0) e in
    (leb-true (length page) 256 h.0, eqb-true (length page % 4) 0 h.1)
