-- One field more is written or read.
use Prim.Native.Nat.{ℕ, zero, suc, ◌+◌, ◌-◌, ◌<◌, ◌≤◌}
use mathlib.Core.Path.{◌≡◌, refl, sym, ap, ◌∙◌}
use mathlib.Core.Bool.{Bool, true, false, cond, ◌||◌, true≢false}
use mathlib.Core.List.{List, [], ◌∷◌, ◌++◌, append_assoc, append-nil}
use native.Mathlib.Decide.{ℕ_discrete}
use native.Mathlib.Nat.{le_of_suc-le-suc}
use native.Mathlib.Numerals.{add-one}
use native.Mathlib.Omega.{arith}
use lib.Dec.{eqb}
use lib.ListN.{length, get_or, take, drop, set, length-drop}
use lib.Seq.{take_all, take-suc-set, get_or-take, get_or-drop, drop-drop}
use borrow.Author.Tests.{eq-eqb, ne_eqb}
use Rattle.laws.proofs.Parts.{to_end}
use Rattle.laws.proofs.Runs.{run_lem}
use Rattle.layout.specs.StoredForm.{Short, as_is, in_words, unless_none, Field, stored_form, field_at}
use Rattle.std.specs.Prelude.{Some, None, Result, Ok, Err}
use Rattle.std.specs.Result.{result_ok}
use Rattle.leb128.specs.declared.NoNumber.{NoNumber}
use Rattle.leb128.specs.declared.NoNumber.TheVariants.{CutOff, TooManyGroups, NotShortest}
use Rattle.leb128.specs.Leb128.{most_groups, NumberAnswer, number, cut_off, too_many_groups, not_shortest, number_in, read_number, seen_found}
use Rattle.leb128.proofs.Theorems.{reads}
use Rattle.short_layout.specs.ShortForm.{is_there, kind_among, field_bytes, bytes_for, grouped, not_grouped, field_in, when_read, numbers_behind, numbers_in}

-- ---- which fields are there

always : (s : Short) → is_there s 0 ≡ true → (kind : ℕ) → is_there s kind ≡ true
always as_is t kind = refl
always in_words t kind = refl
always unless_none t kind = absurd (true≢false (sym t))

-- all but the eleventh, whatever the kind
pub always_there : (i : ℕ) → i < 13 → (i ≡ 10 → ⊥) → (kind : ℕ) → is_there (field_at stored_form i).short kind ≡ true
always_there i l n kind =
    let tested = run_lem (λ k. eqb k 10 || is_there (field_at stored_form k).short 0) 0 13 refl i (omega arith) (omega arith) in
    always (field_at stored_form i).short (rw (ne_eqb i 10 n) at tested) kind

-- the kind is known where it is asked for
pub kind_known : (i : ℕ) (numbers : List ℕ) → i < 13
    → is_there (field_at stored_form i).short (kind_among (take i numbers)) ≡ is_there (field_at stored_form i).short (get_or numbers 9 0)
kind_known i numbers l = elim (ℕ_discrete i 10) [
  | yes e ↦ rw (e, get_or-take 10 numbers 9 0 (omega arith))
  | no n ↦ always_there i l n (kind_among (take i numbers)) ∙ sym (always_there i l n (get_or numbers 9 0))
]

-- ---- writing

pub written_more : (fields : List Field) (i : ℕ) (before numbers : List ℕ) → i < length fields → i < length numbers
    → bytes_for (take (suc i) fields) before numbers
    ≡ bytes_for (take i fields) before numbers ++ field_bytes (field_at fields i).short (kind_among (before ++ take i numbers)) (get_or numbers i 0)
unfolding bytes_for
written_more [] i before numbers l m = absurd (omega arith)
written_more (f ∷ fields) i before [] l m = absurd (omega arith)
written_more (f ∷ fields) zero before (n ∷ numbers) l m = rw (append-nil before, append-nil (field_bytes f.short (kind_among before) n))
written_more (f ∷ fields) (suc i) before (n ∷ numbers) l m =
    rw (written_more fields i (before ++ (n ∷ [])) numbers (le_of_suc-le-suc l) (le_of_suc-le-suc m), append_assoc before (n ∷ []) (take i numbers), append_assoc)

-- a turn of the loop
pub field_more : (i : ℕ) (numbers : List ℕ) → i < 13 → length numbers ≡ 13
    → bytes_for (take (i + 1) stored_form) [] numbers
    ≡ bytes_for (take i stored_form) [] numbers ++ field_bytes (field_at stored_form i).short (get_or numbers 9 0) (get_or numbers i 0)
unfolding field_bytes
field_more i numbers l m = rw (add-one, ← kind_known i numbers l) (written_more stored_form i [] numbers (omega arith) (omega arith))

-- ---- reading

pub read_more : (fields : List Field) (i : ℕ) (before bytes : List ℕ) → i < length fields
    → numbers_behind (drop i fields) before bytes
    ≡ when_read (field_in (field_at fields i).short (kind_among before) bytes) (λ (x n : ℕ). numbers_behind (drop (suc i) fields) (before ++ (x ∷ [])) (drop n bytes))
unfolding numbers_behind
read_more [] i before bytes l = absurd (omega arith)
read_more (f ∷ fields) zero before bytes l = refl
read_more (f ∷ fields) (suc i) before bytes l = read_more fields i before bytes (le_of_suc-le-suc l)

taken_of : (n : ℕ) (bytes : List ℕ) (x l : ℕ) → ((k : ℕ) → get_or bytes k 0 < 256) → number x l ≡ number_in n bytes → l ≤ length bytes
taken_of n bytes x l h e = (rw (← e) at (reads n bytes h)).3

taken_when : (t : Bool) (bytes : List ℕ) (x n : ℕ) → ((k : ℕ) → get_or bytes k 0 < 256) → number x n ≡ cond t (read_number bytes) (number 0 0) → n ≤ length bytes
unfolding read_number
taken_when true bytes x n h e = taken_of most_groups bytes x n h e
taken_when false bytes x n h e = let z : n ≡ 0 = cc in omega arith

-- no field takes more bytes than are left, as a part
pub taken : (s : Short) (kind x n at : ℕ) (bytes : List ℕ) → ((k : ℕ) → get_or bytes k 0 < 256) → number x n ≡ field_in s kind (take (length bytes - at) (drop at bytes))
    → n ≤ length bytes - at
unfolding field_in
taken s kind x n at bytes h e =
    let e = rw (to_end bytes at) at e in
    rw (← length-drop at bytes) (taken_when (is_there s kind) (drop at bytes) x n (λ k. rw get_or-drop (h (at + k))) e)

module _ (bytes numbers : List ℕ) (at i : ℕ) (l : i < 13) (whole : numbers_behind (drop i stored_form) (take i numbers) (drop at bytes) ≡ numbers_in bytes) where
  -- what is left to read, as a part
  abbrev left : List ℕ
  left = take (length bytes - at) (drop at bytes)

  field_left : (a : NumberAnswer) → a ≡ field_in (field_at stored_form i).short (get_or numbers 9 0) left
      → when_read a (λ (x n : ℕ). numbers_behind (drop (suc i) stored_form) (take i numbers ++ (x ∷ [])) (drop n (drop at bytes))) ≡ numbers_in bytes
  unfolding field_in
  field_left a e = rw (e, to_end bytes at, ← kind_known i numbers l) (sym (read_more stored_form i (take i numbers) (drop at bytes) l) ∙ whole)

  -- a turn of the loop
  pub read_turn : (x n : ℕ) → length numbers ≡ 13 → number x n ≡ field_in (field_at stored_form i).short (get_or numbers 9 0) left
      → numbers_behind (drop (i + 1) stored_form) (take (i + 1) (set numbers i x)) (drop (at + n) bytes) ≡ numbers_in bytes
  read_turn x n m e = rw (add-one, take-suc-set numbers i x (omega arith), ← drop-drop n at bytes) (field_left (number x n) e)

  -- what isn't a number ends it
  pub not_read : (a : Result (ℕ × ℕ) NoNumber) → result_ok a ≡ None → seen_found a ≡ field_in (field_at stored_form i).short (get_or numbers 9 0) left → not_grouped ≡ numbers_in bytes
  not_read (Ok (x, n)) t e = absurd cc
  not_read (Err CutOff) t e = field_left cut_off e
  not_read (Err TooManyGroups) t e = field_left too_many_groups e
  not_read (Err NotShortest) t e = field_left not_shortest e

-- a number that was found
pub found : (a : Result (ℕ × ℕ) NoNumber) (x n : ℕ) → result_ok a ≡ Some (x, n) → number x n ≡ seen_found a
found (Ok q) x n t = let e : (x, n) ≡ q = cc in ap (λ (p : ℕ × ℕ). number p.0 p.1) e
found (Err e) x n t = absurd cc

-- nothing may follow the last field
followed : (rest numbers : List ℕ) → cond (eqb (length rest) 0) (grouped numbers) not_grouped ≡ numbers_behind [] numbers rest
unfolding numbers_behind
followed [] numbers = refl
followed (b ∷ rest) numbers = rw (ne_eqb (suc (length rest)) 0 (λ e. absurd (omega arith)))

at_end : (n at : ℕ) → at ≤ n → eqb at n ≡ eqb (n - at) 0
at_end n at l = elim (ℕ_discrete at n) [
  | yes e ↦ rw (eq-eqb at n e, eq-eqb (n - at) 0 (omega arith))
  | no h ↦ rw (ne_eqb at n h, ne_eqb (n - at) 0 (λ e. h (omega arith)))
]

pub read_end : (bytes numbers : List ℕ) (at i : ℕ) → i ≡ 13 → at ≤ length bytes → length numbers ≡ 13
    → numbers_behind (drop i stored_form) (take i numbers) (drop at bytes) ≡ numbers_in bytes
    → cond (eqb at (length bytes)) (grouped numbers) not_grouped ≡ numbers_in bytes
read_end bytes numbers at i e l m whole =
    rw (at_end (length bytes) at l, ← length-drop at bytes) (followed (drop at bytes) numbers) ∙ rw (e, take_all 13 numbers (omega arith)) at whole
