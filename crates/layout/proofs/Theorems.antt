-- The bytes of a record give it back, and bytes that hold a record are its bytes.
use Prim.Native.Nat.{ℕ, zero, suc, ◌/◌, ◌%◌, ◌^◌, ◌<◌, ◌≤◌}
use mathlib.Core.Path.{◌≡◌, refl, sym, ap, subst, ◌∙◌}
use mathlib.Core.Bool.{Bool, true, false, not}
use mathlib.Core.List.{List, [], ◌∷◌, ◌++◌}
use native.Mathlib.Omega.{arith}
use lib.Dec.{eqb, leb}
use lib.ListN.{length, get_or, take, drop, length-drop, take-append-drop}
use lib.Seq.{take_all}
use borrow.Author.Tests.{eqb-true, leb-true, eq-eqb, le-leb}
use Rattle.laws.proofs.Runs.{run_lem}
use Rattle.refusal.specs.Refusals.{accepted, rule, decision, is_accepted}
use Rattle.refusal.proofs.Theorems.{passes_lem, is_accepted_lem}
use Rattle.arm.specs.declared.Flags.{Flags}
use Rattle.state.specs.declared.Base.{Base}
use Rattle.state.specs.declared.Base.TheVariants.{Nothing, Ram, External}
use Rattle.state.specs.declared.Record.{Record}
use Rattle.state.specs.Record.{kind_of, offset_of}
use Rattle.layout.specs.StoredForm.{stored_form, encode, decode, base_of, bit_of, flags_number, flags_of, values_of, record_of, record_bytes, record_in, offset_stands, stand_rules, held_rules, holds_record, Held}
use Rattle.layout.proofs.Fields.{bit_small, elements, elements_are, whole, decode_encode, encode_decode, length_encode, ValuesFit}

-- ---- flags and their number

bit_back : (t : Bool) → eqb (bit_of t) 1 ≡ t
bit_back true = refl
bit_back false = refl

flags_back : (f : Flags) → flags_of (flags_number f) ≡ f
flags_back f =
    let n = bit_small f.n in
    let z = bit_small f.z in
    let c = bit_small f.c in
    let v = bit_small f.v in
    let e3 : flags_number f / 2 ^ 3 % 2 ≡ bit_of f.n = omega arith in
    let e2 : flags_number f / 2 ^ 2 % 2 ≡ bit_of f.z = omega arith in
    let e1 : flags_number f / 2 ^ 1 % 2 ≡ bit_of f.c = omega arith in
    let e0 : flags_number f / 2 ^ 0 % 2 ≡ bit_of f.v = omega arith in
    rw (e3, e2, e1, e0, bit_back f.n, bit_back f.z, bit_back f.c, bit_back f.v)

number_back : (x : ℕ) → x ≤ 15 → flags_number (flags_of x) ≡ x
number_back x h = eqb-true _ _ (run_lem (λ k. eqb (flags_number (flags_of k)) k) 0 16 refl x (omega arith) (omega arith))

number_small : (f : Flags) → flags_number f ≤ 15
number_small f = omega (arith, bit_small f.n, bit_small f.z, bit_small f.c, bit_small f.v)

-- ---- a base and its numbers

kind_small : (b : Base) → kind_of b ≤ 2
kind_small Nothing = omega arith
kind_small (Ram offset) = omega arith
kind_small (External offset) = omega arith

base_back : (b : Base) → base_of (kind_of b) (offset_of b) ≡ b
base_back Nothing = refl
base_back (Ram offset) = refl
base_back (External offset) = refl

numbers_back : (kind offset : ℕ) → kind ≤ 2 → offset_stands kind offset ≡ true → (kind_of (base_of kind offset) ≡ kind) × (offset_of (base_of kind offset) ≡ offset)
numbers_back zero offset l t = (refl, sym (eqb-true offset 0 t))
numbers_back (suc zero) offset l t = (refl, refl)
numbers_back (suc (suc zero)) offset l t = (refl, refl)
numbers_back (suc (suc (suc kind))) offset l t = absurd (omega arith)

own_stands : (b : Base) → offset_stands (kind_of b) (offset_of b) ≡ true
own_stands Nothing = refl
own_stands (Ram offset) = refl
own_stands (External offset) = refl

-- ---- values that are some record's

abbrev pub Stands : List ℕ → Type 0
Stands values = decision (stand_rules values) ≡ accepted

-- the lines of a table, one after the other; r0 to r7, SP and the place have none that can fail
pub stand_tests : (values : List ℕ) → length values ≡ 13
    → decision (stand_rules values)
    ≡ decision (rule (not (leb (get_or values 9 0) 2)) 255 (36 ∷ []) ∷ rule (not (offset_stands (get_or values 9 0) (get_or values 10 0))) 255 (37 ∷ []) ∷ rule (not (leb (get_or values 12 0) 15)) 255 (43 ∷ []) ∷ [])
stand_tests values l = ap (λ (vs : List ℕ). decision (stand_rules vs)) (sym (whole 13 values l))

stands_parts : (values : List ℕ) → length values ≡ 13 → Stands values
    → (get_or values 9 0 ≤ 2) × (offset_stands (get_or values 9 0) (get_or values 10 0) ≡ true) × (get_or values 12 0 ≤ 15)
stands_parts values l t =
    let kind = passes_lem (leb (get_or values 9 0) 2) 255 (36 ∷ []) _ (sym (stand_tests values l) ∙ t) in
    let offset = passes_lem (offset_stands (get_or values 9 0) (get_or values 10 0)) 255 (37 ∷ []) _ kind.1 in
    let flags = passes_lem (leb (get_or values 12 0) 15) 255 (43 ∷ []) _ offset.1 in
    (leb-true _ 2 kind.0, offset.0, leb-true _ 15 flags.0)

-- ---- a record and its values

pub record_back : (r : Record) → length r.regs ≡ 8 → record_of (values_of r) ≡ r
record_back r l =
    let e = whole 8 r.regs l in
    let more = r.sp ∷ kind_of r.base ∷ offset_of r.base ∷ r.place ∷ flags_number r.flags ∷ [] in
    ap (λ (regs : List ℕ). record_of (regs ++ more)) (sym e) ∙ rw (e, base_back r.base, flags_back r.flags)

own_values : (r : Record) → length r.regs ≡ 8 → Stands (values_of r)
own_values r l =
    let more = r.sp ∷ kind_of r.base ∷ offset_of r.base ∷ r.place ∷ flags_number r.flags ∷ [] in
    subst (λ (regs : List ℕ). Stands (regs ++ more)) (whole 8 r.regs l)
    (rw (le-leb (kind_of r.base) 2 (kind_small r.base), own_stands r.base, le-leb (flags_number r.flags) 15 (number_small r.flags)))

pub values_back : (values : List ℕ) → length values ≡ 13 → Stands values → values_of (record_of values) ≡ values
values_back values l t =
    let p = stands_parts values l t in
    let b = numbers_back (get_or values 9 0) (get_or values 10 0) p.0 p.1 in
    let e : elements 5 8 values ≡ drop 8 values =
    elements_are 5 8 values (omega arith) ∙ take_all 5 (drop 8 values) (omega (arith, length-drop 8 values)) in
    rw (b.0, b.1, number_back (get_or values 12 0) p.2)
    (ap (λ (rest : List ℕ). take 8 values ++ rest) e ∙ take-append-drop 8 values)

-- ---- bytes that hold a record

pub held : (bytes : List ℕ) → holds_record bytes ≡ true → (length bytes ≡ 44) × Stands (decode stored_form bytes)
held bytes t =
    let p = passes_lem (eqb (length bytes) 44) 255 (0 ∷ []) _ (is_accepted_lem (decision (held_rules bytes)) t) in
    (eqb-true (length bytes) 44 p.0, p.1)

-- ---- the round trips

module _ (r : Record) (h : Held r) where
  -- each value has its field's width
  pub fits : ValuesFit stored_form (values_of r)
  fits = subst (λ (regs : List ℕ). ValuesFit stored_form (regs ++ (r.sp ∷ kind_of r.base ∷ offset_of r.base ∷ r.place ∷ flags_number r.flags ∷ []))) (whole 8 r.regs h.eight)
      (h.words 0, (h.words 1, (h.words 2, (h.words 3, (h.words 4, (h.words 5, (h.words 6, (h.words 7, (h.sp, (omega (arith, kind_small r.base), (h.offset, (h.place, (omega (arith, number_small r.flags), tt)))))))))))))

  pub values_kept : decode stored_form (record_bytes r) ≡ values_of r
  values_kept = decode_encode stored_form (values_of r) fits

  -- a record's bytes hold it
  pub record_kept : record_in (record_bytes r) ≡ r
  record_kept = ap record_of values_kept ∙ record_back r h.eight

  pub record_length : length (record_bytes r) ≡ 44
  record_length = length_encode stored_form (values_of r) fits

  -- so every record can cross, fit or not
  pub record_holds : holds_record (record_bytes r) ≡ true
  record_holds =
      let stands : Stands (decode stored_form (record_bytes r)) = ap (λ (values : List ℕ). decision (stand_rules values)) values_kept ∙ own_values r h.eight in
      let accepts : decision (held_rules (record_bytes r)) ≡ accepted = rw (eq-eqb (length (record_bytes r)) 44 record_length) stands in
      ap is_accepted accepts

module _ (bytes : List ℕ) (t : Stands (decode stored_form bytes)) where
  pub same_values : values_of (record_in bytes) ≡ decode stored_form bytes
  same_values = values_back (decode stored_form bytes) refl t

  -- bytes that hold a record are its bytes
  pub bytes_kept : length bytes ≡ 44 → ((k : ℕ) → get_or bytes k 0 < 256) → record_bytes (record_in bytes) ≡ bytes
  bytes_kept l h = ap (encode stored_form) same_values ∙ encode_decode stored_form bytes l h
