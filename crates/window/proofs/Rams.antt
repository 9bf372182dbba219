-- RAMs that are equal at some offsets: it is an equivalence.
use Prim.Native.Nat.{ℕ}
use mathlib.Core.List.{List}
use mathlib.Core.Path.{refl, sym, ◌∙◌}
use Rattle.window.specs.Windows.{EqualAt}

module _ (At : ℕ → Type 0) where
  pub equal_same : (a : List ℕ) → EqualAt At a a
  equal_same a = (refl, λ k i. refl)

  pub equal_back : (a b : List ℕ) → EqualAt At a b → EqualAt At b a
  equal_back a b e = (sym e.0, λ k i. sym (e.1 k i))

  pub equal_on : (a b c : List ℕ) → EqualAt At a b → EqualAt At b c → EqualAt At a c
  equal_on a b c e f = (e.0 ∙ f.0, λ k i. e.1 k i ∙ f.1 k i)
