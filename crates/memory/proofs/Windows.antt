-- Three ways in which windows and RAMs are related, so that reads and writes keep to a window.
use Prim.Native.Nat.{ℕ, ◌+◌, ◌≤◌, ◌<◌}
use native.Mathlib.Omega.{arith}
use mathlib.Core.Bool.{true}
use mathlib.Core.List.{List}
use mathlib.Core.Path.{◌≡◌, sym, ap, ◌∙◌}
use lib.Dec.{leb}
use lib.ListN.{length}
use borrow.Author.Tests.{leb-true}
use Rattle.laws.proofs.Tests.{both}
use Rattle.endian.specs.LittleEndian.{load_le, store_le}
use Rattle.endian.proofs.Theorems.{length_store, load_agrees, store_elsewhere, store_agrees}
use Rattle.window.specs.Windows.{whole_ram, inside_window, Inside, EqualInside, EqualOutside}
use Rattle.window.specs.declared.Window.{Window}
use Rattle.memory.proofs.Ram.{whole_window}
use Rattle.memory.proofs.Alike.{Related}

-- the bytes of an access that the window holds lie inside
access_inside : (w : Window) (at bytes k : ℕ) → inside_window w at bytes ≡ true → at ≤ k → k < at + bytes → Inside w k
unfolding inside_window
access_inside w at bytes k e l u =
    let edges = both (leb w.start at) (leb (at + bytes) w.end) e in
    (omega (arith, leb-true w.start at edges.0), omega (arith, leb-true (at + bytes) w.end edges.1))

same_lengths : (a b : List ℕ) (bytes at x : ℕ) → length a ≡ length b → length (store_le bytes a at x) ≡ length (store_le bytes b at x)
same_lengths a b bytes at x l = length_store bytes a at x ∙ l ∙ sym (length_store bytes b at x)

-- two RAMs that are equal inside
pub equal_inside : (w : Window) → Related w w (EqualInside w)
equal_inside w = record {
  wider = λ at bytes i e. e;
  reads = λ a b s at bytes e. load_agrees bytes a b at (λ k l u. s.1 k (access_inside w at bytes k e l u));
  writes = λ a b s at bytes x e. (same_lengths a b bytes at x s.0, λ k i. store_agrees bytes a b at x k s.0 (s.1 k i));
}

-- one RAM, by a window and by all of RAM
pub inside_whole : (w : Window) → Related w whole_ram (λ a b. a ≡ b)
inside_whole w = record {
  wider = λ at bytes i e. whole_window at bytes ∙ i;
  reads = λ a b s at bytes e. ap (λ ram. load_le bytes ram at) s;
  writes = λ a b s at bytes x e. ap (λ ram. store_le bytes ram at x) s;
}

-- one RAM and what it was at first, outside
pub stays_outside : (w : Window) (first : List ℕ) → Related w w (λ a b. (a ≡ b) × EqualOutside w first a)
stays_outside w first = record {
  wider = λ at bytes i e. e;
  reads = λ a b s at bytes e. ap (λ ram. load_le bytes ram at) s.0;
  writes = λ a b s at bytes x e. (
    ap (λ ram. store_le bytes ram at x) s.0,
    (
      s.1.0 ∙ sym (length_store bytes a at x),
      λ k out. s.1.1 k out ∙ sym (store_elsewhere bytes a at x k (λ l u. out (access_inside w at bytes k e l u))),
    ),
  );
}
