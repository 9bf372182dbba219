-- Successors and the count, over any bundles: closed prefixes, and the three ways to the greatest one.
use Rattle.std.specs.Prelude.{ℕ, zero, suc, ◌≤◌, ◌<◌, Bool, true, false, ◌&&◌, cond, List, [], ◌∷◌, ◌⊎◌, ◌≡◌, ltb}

-- a bundle is bad, or goes to its successors
pub data Successors : Type 0 where
  bad : Successors
  goes : List ℕ → Successors

abbrev pub AllBelow : ℕ → List ℕ → Type 0
AllBelow m [] = Unit {0}
AllBelow m (s ∷ ss) = (s < m) × AllBelow m ss

-- not bad, and all successors below m
abbrev pub Within : ℕ → Successors → Type 0
Within m bad = ⊥
Within m (goes ss) = AllBelow m ss

-- the build paper's closed prefix: a prefix of m bundles is closed if all m are not bad and all their successors are below m
abbrev pub Closed : (ℕ → Successors) → ℕ → Type 0
Closed successors m = (k : ℕ) → k < m → Within m (successors k)

-- the build paper's count: the greatest closed m up to the page's bundles
pub record Greatest (successors : ℕ → Successors) (bundles m : ℕ) : Type 0 where
  pub inside : m ≤ bundles
  pub closed : Closed successors m
  pub greatest : (n : ℕ) → n ≤ bundles → Closed successors n → n ≤ m

-- a bundle that isn't bad under the stricter function has the same successors under the looser
abbrev pub SameUnlessBad : (ℕ → Successors) → (ℕ → Successors) → Type 0
SameUnlessBad stricter looser = (k : ℕ) → (stricter k ≡ bad) ⊎ (stricter k ≡ looser k)

-- ---- the same, computed

abbrev pub all_below : ℕ → List ℕ → Bool
all_below m [] = true
all_below m (s ∷ ss) = ltb s m && all_below m ss

abbrev pub within : ℕ → Successors → Bool
within m bad = false
within m (goes ss) = all_below m ss

-- the first k bundles lie within m
unfoldable pub all_within : (ℕ → Successors) → ℕ → ℕ → Bool
all_within successors m zero = true
all_within successors m (suc k) = within m (successors k) && all_within successors m k

-- each prefix is tried, from the largest down
unfoldable pub greatest_closed : (ℕ → Successors) → ℕ → ℕ
greatest_closed successors zero = zero
greatest_closed successors (suc n) = cond (all_within successors (suc n) (suc n)) (suc n) (greatest_closed successors n)

-- ---- document 000, single pass: from the last bundle back, the bound falls to each bundle that is not within it

unfoldable pub scan_back : (ℕ → Successors) → ℕ → ℕ → ℕ
scan_back successors zero bound = bound
scan_back successors (suc k) bound = scan_back successors k (cond (within bound (successors k)) bound k)

abbrev pub single_pass : (ℕ → Successors) → ℕ → ℕ
single_pass successors bundles = scan_back successors bundles bundles

-- ---- document 000, iterated: a pass finds the first bundle below the bound that is not within it, and the bound falls to it.
-- The first pass is at the full bound, so that it finds the first definitely invalid bundle: one that is bad or has a successor
-- outside the block

-- of the bundles from j on, so many are looked at; else the bound stays
unfoldable pub first_outside : (ℕ → Successors) → ℕ → ℕ → ℕ → ℕ
first_outside successors bound zero j = bound
first_outside successors bound (suc left) j = cond (within bound (successors j)) (first_outside successors bound left (suc j)) j

unfoldable pub passes : (ℕ → Successors) → ℕ → ℕ → ℕ
passes successors zero bound = bound
passes successors (suc more) bound = passes successors more (first_outside successors bound bound 0)

-- each pass lowers the bound or changes nothing more, so that one for each bundle is enough
abbrev pub iterated : (ℕ → Successors) → ℕ → ℕ
iterated successors bundles = passes successors bundles bundles
