-- There is one greatest closed prefix, and the definition, the single pass and the iterated form all give it; where fewer bundles are
-- bad it is no smaller.
use Prim.Native.Nat.{ℕ, zero, suc, ◌+◌, ◌-◌, ◌≤◌, ◌<◌, max, zero-le}
use native.Mathlib.Nat.{le_refl, le_antisymm, eq-or-lt_of_le, le_of_suc-le-suc, not-suc-le-zero}
use native.Mathlib.Numerals.{sub-one}
use native.Mathlib.Omega.{arith}
use mathlib.Core.Path.{◌≡◌, refl, sym, ◌∙◌}
use mathlib.Core.Bool.{Bool, true, false, ◌&&◌, cond, false≢true, and-true, and_assoc}
use mathlib.Core.List.{List, [], ◌∷◌}
use mathlib.Core.Logic.{◌⊎◌, inl, inr, ⊎_elim}
use lib.Dec.{ltb}
use borrow.Author.Tests.{ltb-true, ltb-false, lt-ltb, le-ltb}
use Rattle.laws.proofs.Tests.{both}
use Rattle.prefix.specs.Prefix.{Successors, bad, goes, AllBelow, Within, Closed, Greatest, SameUnlessBad, all_below, within, all_within, greatest_closed, scan_back, single_pass, first_outside, passes, iterated}
use Rattle.prefix.specs.LargestSuccessor.{largest_of}

-- ---- the test `within` tells `Within`

true_below : (m : ℕ) (ss : List ℕ) → all_below m ss ≡ true → AllBelow m ss
true_below m [] e = tt
true_below m (s ∷ ss) e =
    let h = both (ltb s m) (all_below m ss) e in
    (ltb-true s m h.0, true_below m ss h.1)

below_true : (m : ℕ) (ss : List ℕ) → AllBelow m ss → all_below m ss ≡ true
below_true m [] h = refl
below_true m (s ∷ ss) h = rw (lt-ltb s m h.0) (below_true m ss h.1)

below_mono : {m n : ℕ} (ss : List ℕ) → m ≤ n → AllBelow m ss → AllBelow n ss
below_mono [] l h = h
below_mono (s ∷ ss) l h = (omega arith, below_mono ss l h.1)

pub true_within : (m : ℕ) (s : Successors) → within m s ≡ true → Within m s
true_within m bad e = false≢true e
true_within m (goes ss) e = true_below m ss e

pub within_true : (m : ℕ) (s : Successors) → Within m s → within m s ≡ true
within_true m bad h = absurd h
within_true m (goes ss) h = below_true m ss h

pub within_mono : {m n : ℕ} (s : Successors) → m ≤ n → Within m s → Within n s
within_mono bad l h = h
within_mono (goes ss) l h = below_mono ss l h

-- ---- of several successors only the largest counts

max_below : (m s t : ℕ) → (ltb s m && ltb t m) ≡ ltb (max s t) m
max_below m s t = go (ltb s m) (ltb t m) refl refl
  where
    go : (a b : Bool) → ltb s m ≡ a → ltb t m ≡ b → (a && b) ≡ ltb (max s t) m
    go true true p q = sym (lt-ltb (max s t) m (omega (arith, ltb-true s m p, ltb-true t m q)))
    go true false p q = sym (le-ltb (max s t) m (omega (arith, ltb-false t m q)))
    go false b p q = sym (le-ltb (max s t) m (omega (arith, ltb-false s m p)))

pub largest_within : (m s : ℕ) (ss : List ℕ) → all_below m (s ∷ ss) ≡ ltb (largest_of s ss) m
largest_within m s [] = and-true (ltb s m)
largest_within m s (t ∷ ts) = rw (← and_assoc (ltb s m) (ltb t m) (all_below m ts), max_below) (largest_within m (max s t) ts)

-- ---- the count

-- no closed prefix up to the page's bundles is longer than b: each way lowers such a bound until it is closed itself
record Bound (successors : ℕ → Successors) (bundles b : ℕ) : Type 0 where
  inside : b ≤ bundles
  above : (m : ℕ) → m ≤ bundles → Closed successors m → m ≤ b

-- to show P of a choice, show it of each side, knowing the test's answer
by_test : (P : ℕ → Type 0) (t : Bool) {a b : ℕ} → (t ≡ true → P a) → (t ≡ false → P b) → P (cond t a b)
by_test P true f g = f refl
by_test P false f g = g refl

module _ (successors : ℕ → Successors) where
  -- the first k bundles lie within m, so that `Closed m` is `Covers m m`
  abbrev Covers : ℕ → ℕ → Type 0
  Covers m k = (j : ℕ) → j < k → Within m (successors j)

  covers_none : (m : ℕ) → Covers m 0
  covers_none m j l = absurd (not-suc-le-zero l)

  covers_next : (m k : ℕ) → within m (successors k) ≡ true → Covers m k → Covers m (suc k)
  covers_next m k e c j l = ⊎_elim (λ q. rw q (true_within m (successors k) e)) (c j) (eq-or-lt_of_le (le_of_suc-le-suc l))

  true_all : (m k : ℕ) → all_within successors m k ≡ true → Covers m k
  unfolding all_within
  true_all m zero e = covers_none m
  true_all m (suc k) e =
      let h = both (within m (successors k)) (all_within successors m k) e in
      covers_next m k h.0 (true_all m k h.1)

  all_true : (m k : ℕ) → Covers m k → all_within successors m k ≡ true
  unfolding all_within
  all_true m zero c = refl
  all_true m (suc k) c = rw (within_true m (successors k) (c k (le_refl (suc k)))) (all_true m k (λ j l. c j (omega arith)))

  start : (n : ℕ) → Bound successors n n
  start n = record { inside = le_refl n; above = λ m l c. l }

  -- a closed bound is the count
  found : {n b : ℕ} → Bound successors n b → Closed successors b → Greatest successors n b
  found h c = record { inside = h.inside; closed = c; greatest = h.above }

  -- where no closed prefix lies above k, the bound falls to k
  falls : {n b k : ℕ} → Bound successors n b → k ≤ b
      → ((m : ℕ) → k < m → m ≤ b → Closed successors m → ⊥) → Bound successors n k
  falls {k} h l empty = record {
    inside = omega arith;
    above = λ m u c. let out : k < m → ⊥ = λ v. empty m v (h.above m u c) c in omega arith;
  }

  -- a bundle that is not within the bound is in no closed prefix up to it
  outside : {n b k : ℕ} → Bound successors n b → k ≤ b → within b (successors k) ≡ false → Bound successors n k
  outside {b} {k} h l e =
      falls h l (λ m u v c. false≢true (sym e ∙ within_true b (successors k) (within_mono (successors k) v (c k u))))

  pub unique : {bundles m n : ℕ} → Greatest successors bundles m → Greatest successors bundles n → m ≡ n
  unique g h = le_antisymm (h.greatest _ g.inside g.closed) (g.greatest _ h.inside h.closed)

  -- ---- the definition

  tries : {n : ℕ} (k : ℕ) → Bound successors n k → Greatest successors n (greatest_closed successors k)
  unfolding greatest_closed
  tries zero h = found h (covers_none 0)
  tries {n} (suc k) h = by_test (Greatest successors n) (all_within successors (suc k) (suc k))
      (λ e. found h (true_all (suc k) (suc k) e))
      (λ e. tries k (falls h (omega arith) (λ m u v c.
      false≢true (sym e ∙ all_true (suc k) (suc k) (rw (le_antisymm v u) at c)))))

  pub definition : (n : ℕ) → Greatest successors n (greatest_closed successors n)
  definition n = tries n (start n)

  -- ---- the single pass

  -- on the way back, the bundles from k up to the bound lie within it
  scans : {n : ℕ} (k b : ℕ) → k ≤ b → Bound successors n b → ((j : ℕ) → k ≤ j → j < b → Within b (successors j))
      → Greatest successors n (scan_back successors k b)
  unfolding scan_back
  scans zero b l h c = found h (λ j. c j zero-le)
  scans {n} (suc k) b l h c = by_test (λ x. Greatest successors n (scan_back successors k x)) (within b (successors k))
      (λ e. scans k b (omega arith) h (λ j u v.
      ⊎_elim (λ q. rw (← q) (true_within b (successors k) e)) (λ w. c j w v) (eq-or-lt_of_le u)))
      (λ e. scans k k (le_refl k) (outside h (omega arith) e) (λ j u v. absurd (omega arith)))

  pub single_pass_lem : (n : ℕ) → Greatest successors n (single_pass successors n)
  single_pass_lem n = scans n n (le_refl n) (start n) (λ j u v. absurd (omega arith))

  pub single_pass_is : (n : ℕ) → single_pass successors n ≡ greatest_closed successors n
  single_pass_is n = unique (single_pass_lem n) (definition n)

  -- ---- the iterated form

  -- a pass lowers the bound, or has found it closed
  abbrev Passed : ℕ → ℕ → ℕ → Type 0
  Passed n b x = Bound successors n x × ((x < b) ⊎ Closed successors x)

  first_outside_lem : {n : ℕ} (b left j : ℕ) → j + left ≡ b → Bound successors n b → Covers b j
      → Passed n b (first_outside successors b left j)
  unfolding first_outside
  first_outside_lem b zero j l h c = (h, inr (λ i u. c i (omega arith)))
  first_outside_lem {n} b (suc left) j l h c = by_test (Passed n b) (within b (successors j))
      (λ e. first_outside_lem b left (suc j) (omega arith) h (covers_next b j e c))
      (λ e. (outside h (omega arith) e, inl (omega arith)))

  -- each pass lowers a bound that is not closed, so as many passes as it has bundles are enough
  iterate : {n : ℕ} (more b : ℕ) → Bound successors n b → (more < b → Closed successors b)
      → Greatest successors n (passes successors more b)
  unfolding passes
  iterate zero b h c = found h (λ j u. c (omega arith) j u)
  iterate {n} (suc more) b h c =
      let p : Passed n b (first_outside successors b b 0) = first_outside_lem b b 0 (omega arith) h (covers_none b) in
      iterate more _ p.0 (λ u.
      ⊎_elim (λ v. absurd (omega (arith, p.0.above b h.inside (c (omega arith))))) (λ d. d) p.1)

  pub iterates : (n : ℕ) → Greatest successors n (iterated successors n)
  iterates n = iterate n n (start n) (λ u. absurd (omega arith))

  pub iterates_is : (n : ℕ) → iterated successors n ≡ greatest_closed successors n
  iterates_is n = unique (iterates n) (definition n)

  -- ---- the loop that computes the single pass: a turn, and its end

  pub scan_turn : (k bound bound' t : ℕ) → 0 < k → bound' ≡ cond (within bound (successors (k - 1))) bound (k - 1)
      → scan_back successors k bound ≡ t → scan_back successors (k - 1) bound' ≡ t
  unfolding scan_back
  scan_turn zero bound bound' t l q e = absurd (not-suc-le-zero l)
  scan_turn (suc k) bound bound' t l q e = rw (q, sub-one (suc k)) e

  pub scan_end : (k bound t : ℕ) → k ≤ 0 → scan_back successors k bound ≡ t → bound ≡ t
  unfolding scan_back
  scan_end zero bound t l e = e
  scan_end (suc k) bound t l e = absurd (not-suc-le-zero l)

-- ---- the count depends only on the bundles below n

module _ (successors other : ℕ → Successors) where
  all_extent : (m k : ℕ) → ((j : ℕ) → j < k → successors j ≡ other j) → all_within successors m k ≡ all_within other m k
  unfolding all_within
  all_extent m zero same = refl
  all_extent m (suc k) same = rw (same k (le_refl (suc k)), all_extent m k (λ j l. same j (omega arith)))

  pub closed_extent : (n : ℕ) → ((k : ℕ) → k < n → successors k ≡ other k) → greatest_closed successors n ≡ greatest_closed other n
  unfolding greatest_closed
  closed_extent zero same = refl
  closed_extent (suc n) same = rw (all_extent (suc n) (suc n) same, closed_extent n (λ k l. same k (omega arith)))

-- ---- where fewer bundles are bad, the count is no smaller

module _ (stricter looser : ℕ → Successors) (same : SameUnlessBad stricter looser) where
  within_looser : (m k : ℕ) → Within m (stricter k) → Within m (looser k)
  within_looser m k h = ⊎_elim (λ e. absurd (rw e at h)) (λ e. rw e at h) (same k)

  -- a prefix closed by the one is closed by the other
  closed_looser : (m : ℕ) → Closed stricter m → Closed looser m
  closed_looser m c k l = within_looser m k (c k l)

  pub count_looser : (n : ℕ) → greatest_closed stricter n ≤ greatest_closed looser n
  count_looser n =
      let s = definition stricter n in
      (definition looser n).greatest (greatest_closed stricter n) s.inside (closed_looser (greatest_closed stricter n) s.closed)
