-- Words in RAM: one more of them, and each in its access.
use Rattle.std.specs.Prelude.{Ok}
use Prim.Native.Nat.{ℕ, zero, suc, ◌+◌, ◌*◌, ◌^◌, ◌<◌, ◌≤◌}
use native.Mathlib.Omega.{arith}
use mathlib.Core.Bool.{true}
use mathlib.Core.List.{List, [], ◌∷◌, ◌++◌}
use mathlib.Core.Path.{◌≡◌, refl, ap, ◌∙◌}
use lib.Dec.{leb}
use lib.ListN.{length, get_or, set, take, drop}
use lib.Seq.{take-suc-set}
use native.Mathlib.Numerals.{add-one}
use borrow.Author.Tests.{le-leb, leb-true}
use Rattle.laws.proofs.Tests.{both}
use Rattle.endian.specs.LittleEndian.{load_le, store_le}
use Rattle.endian.proofs.Theorems.{length_store, load_agrees, store_elsewhere, load_stored}
use Rattle.endian.specs.declared.Size.TheVariants.{Word}
use Rattle.window.specs.Windows.{inside_window}
use Rattle.window.specs.declared.Window.{Window}
use Rattle.memory.specs.Memory.{ram_access, ram_loaded, ram_after}
use Rattle.memory.specs.declared.Fault.{Fault}
use Rattle.memory.proofs.Ram.{done}
use Rattle.frame.specs.Frames.{store_words, load_words}

-- ---- one word more

pub store_next : (ram words : List ℕ) (at i : ℕ) → i < length words
    → store_words (store_le 4 ram (at + 4 * i) (get_or words i 0)) (at + 4 * (i + 1)) (drop (i + 1) words) ≡ store_words ram (at + 4 * i) (drop i words)
store_next ram [] at i l = absurd (omega (arith, l))
store_next ram (x ∷ words) at zero l = let e : at + 4 * (0 + 1) ≡ at + 4 * 0 + 4 = omega arith in rw e
store_next ram (x ∷ words) at (suc i) l =
    let e : at + 4 * suc i ≡ (at + 4) + 4 * i = omega arith in
    let f : at + 4 * (suc i + 1) ≡ (at + 4) + 4 * (i + 1) = omega arith in
    let g : suc i + 1 ≡ suc (i + 1) = omega arith in
    rw (e, f, g) (store_next ram words (at + 4) i (omega (arith, l)))

pub load_next : (ram : List ℕ) (at i : ℕ) → load_words (suc i) ram at ≡ load_words i ram at ++ (load_le 4 ram (at + 4 * i) ∷ [])
load_next ram at zero = let e : at + 4 * 0 ≡ at = omega arith in rw e
load_next ram at (suc i) =
    let e : at + 4 * suc i ≡ (at + 4) + 4 * i = omega arith in
    rw e (ap (λ (rest : List ℕ). load_le 4 ram at ∷ rest) (load_next ram (at + 4) i))

-- a word more that was read
pub load_one : (ram words : List ℕ) (at i x : ℕ) → i < length words → take i words ≡ load_words i ram at → x ≡ load_le 4 ram (at + 4 * i)
    → take (i + 1) (set words i x) ≡ load_words (i + 1) ram at
load_one ram words at i x l h e = rw (add-one i, take-suc-set words i x l, h, e, load_next ram at i)

-- ---- what words keep

pub length_words : (ram : List ℕ) (at : ℕ) (words : List ℕ) → length (store_words ram at words) ≡ length ram
length_words ram at [] = refl
length_words ram at (x ∷ words) = length_words (store_le 4 ram at x) (at + 4) words ∙ length_store 4 ram at x

-- words elsewhere stay
store_words_elsewhere : (ram : List ℕ) (at : ℕ) (words : List ℕ) (k : ℕ) → k < at → get_or (store_words ram at words) k 0 ≡ get_or ram k 0
store_words_elsewhere ram at [] k l = refl
store_words_elsewhere ram at (x ∷ words) k l =
    store_words_elsewhere (store_le 4 ram at x) (at + 4) words k (omega arith)
    ∙ store_elsewhere 4 ram at x k (λ m u. omega arith)

-- words that were written are read back
pub words_back : (ram : List ℕ) (at : ℕ) (words : List ℕ) → at + 4 * length words ≤ length ram → ((k : ℕ) → get_or words k 0 < 2 ^ 32)
    → load_words (length words) (store_words ram at words) at ≡ words
words_back ram at [] l h = refl
words_back ram at (x ∷ words) l h =
    let after = store_le 4 ram at x in
    let first : load_le 4 (store_words after (at + 4) words) at ≡ x =
    load_agrees 4 (store_words after (at + 4) words) after at (λ k m u. store_words_elsewhere after (at + 4) words k (omega arith))
    ∙ load_stored 4 ram at x (omega arith) (h 0) in
    rw (first, words_back after (at + 4) words (omega (arith, length_store 4 ram at x)) (λ k. h (suc k)))

-- ---- a part of an access that may be done

pub part_inside : (window : Window) (at bytes a n : ℕ) → inside_window window at bytes ≡ true → at ≤ a → a + n ≤ at + bytes
    → inside_window window a n ≡ true
unfolding inside_window
part_inside window at bytes a n e l u =
    let edges = both (leb window.start at) (leb (at + bytes) window.end) e in
    let low = leb-true window.start at edges.0 in
    let high = leb-true (at + bytes) window.end edges.1 in
    rw (le-leb window.start a (omega arith)) (le-leb (a + n) window.end (omega arith))

pub part_done : (window : Window) (at bytes : ℕ) (past : Fault) → ram_access window at bytes past ≡ Ok tt → (a n : ℕ) → at ≤ a → a + n ≤ at + bytes
    → ram_access window a n past ≡ Ok tt
unfolding ram_access
part_done window at bytes past d a n l u =
    let tests = done window at bytes past d in
    let high = leb-true (at + bytes) 32768 tests.0 in
    rw (le-leb (a + n) 32768 (omega arith), part_inside window at bytes a n tests.1 l u)

module _ (window : Window) (a : ℕ) (past : Fault) (d : ram_access window a 4 past ≡ Ok tt) (ram : List ℕ) where
  pub word_stored : (x : ℕ) → ram_after window ram a Word past x ≡ store_le 4 ram a x
  unfolding ram_after
  word_stored x = rw d

  pub word_loaded : ram_loaded window ram a Word past ≡ Ok (load_le 4 ram a)
  unfolding ram_loaded
  word_loaded = rw d
