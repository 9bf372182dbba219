-- What a run leaves of a record that came in bytes always crosses as bytes again: its parts keep to their widths.
use Prim.Native.Nat.{ℕ, zero, suc, ◌<◌, ◌/◌, ◌%◌, ◌^◌}
use native.Mathlib.Omega.{arith}
use mathlib.Core.Bool.{true, ◌&&◌}
use mathlib.Core.List.{List}
use mathlib.Core.Path.{◌≡◌, refl}
use lib.Dec.{eqb, ltb, leb}
use lib.ListN.{length, get_or, take}
use borrow.Author.Tests.{ltb-true, leb-true}
use Rattle.laws.proofs.Tests.{both}
use Rattle.refusal.specs.Refusals.{accepted}
use Rattle.platform.specs.Programs.{Program, Setting}
use Rattle.count.specs.Count.{count_program}
use Rattle.count.proofs.Theorems.{at_most}
use Rattle.state.specs.FitRecord.{sp_fits, base_fits, fit_record}
use Rattle.state.specs.Record.{offset_of}
use Rattle.state.specs.Validation.{external_fits}
use Rattle.state.specs.declared.Base.{Base}
use Rattle.state.specs.declared.Base.TheVariants.{Nothing, Ram, External}
use Rattle.state.specs.declared.Record.{Record}
use Rattle.place.specs.Places.{fit_below, fit_place}
use Rattle.plain.specs.PlainMachine.{plain}
use Rattle.plain.proofs.Runs.{run_keeps}
use Rattle.series.proofs.Keeps.{admits_after}
use Rattle.admission.specs.RunRefusals.{run_decision}
use Rattle.instruction.specs.Fitness.{Fit}
use Rattle.instruction.specs.Instructions.{instruction_of}
use Rattle.instruction.proofs.WordsKept.{Words, words_kept}
use Rattle.claims.specs.Demand3.{machine}
use Rattle.claims.proofs.Admitted.{admitted_allowed}
use Rattle.claims.proofs.Machines.{code_keeps}
use Rattle.layout.specs.StoredForm.{stored_form, decode, base_of, record_in, Held}
use Rattle.layout.proofs.Fields.{decode_below}
use Rattle.host_series.specs.Host.{Bytes}

-- ---- a record in bytes

offset_below : (kind offset : ℕ) → offset < 2 ^ 32 → offset_of (base_of kind offset) < 2 ^ 32
offset_below zero offset l = omega arith
offset_below (suc zero) offset l = l
offset_below (suc (suc kind)) offset l = l

module _ (bytes : List ℕ) (h : Bytes bytes) where
  register_below : (k : ℕ) → get_or (take 8 (decode stored_form bytes)) k 0 < 2 ^ 32
  register_below zero = decode_below stored_form 0 bytes (omega arith) h
  register_below (suc zero) = decode_below stored_form 1 bytes (omega arith) h
  register_below (suc (suc zero)) = decode_below stored_form 2 bytes (omega arith) h
  register_below (suc (suc (suc zero))) = decode_below stored_form 3 bytes (omega arith) h
  register_below (suc (suc (suc (suc zero)))) = decode_below stored_form 4 bytes (omega arith) h
  register_below (suc (suc (suc (suc (suc zero))))) = decode_below stored_form 5 bytes (omega arith) h
  register_below (suc (suc (suc (suc (suc (suc zero)))))) = decode_below stored_form 6 bytes (omega arith) h
  register_below (suc (suc (suc (suc (suc (suc (suc zero))))))) = decode_below stored_form 7 bytes (omega arith) h
  register_below (suc (suc (suc (suc (suc (suc (suc (suc k)))))))) = omega arith

  pub record_held : Held (record_in bytes)
  record_held = record {
    eight = refl;
    words = register_below;
    sp = decode_below stored_form 8 bytes (omega arith) h;
    offset = offset_below (get_or (decode stored_form bytes) 9 0) _ (decode_below stored_form 10 bytes (omega arith) h);
    place = decode_below stored_form 11 bytes (omega arith) h;
  }

-- ---- a fit record

sp_below : (sp : ℕ) → sp_fits sp ≡ true → sp < 2 ^ 32
sp_below sp h =
    let parts = both (leb 0x10000 sp && leb sp 0x18000) (eqb (sp % 4) 0) h in
    omega (arith, leb-true sp 0x18000 (both (leb 0x10000 sp) (leb sp 0x18000) parts.0).1)

base_below : (b : Base) (external : ℕ) → external < 2 ^ 32 → base_fits b external ≡ true → offset_of b < 2 ^ 32
base_below Nothing external l h = omega arith
base_below (Ram o) external l h = omega (arith, ltb-true o (2 ^ 20) (both (ltb o (2 ^ 20)) true h).0)
base_below (External o) external l h = omega (arith, ltb-true o external h)

external_below : (external : ℕ) → external_fits external ≡ true → external < 2 ^ 32
unfolding external_fits
external_below external h = omega (arith, leb-true external 16777216 (both (leb external 16777216) (eqb (external % 256) 0) h).0)

place_below : (program : Program) (place : ℕ) → fit_place program place ≡ true → place < 2 ^ 16
unfolding fit_below
place_below program place h =
    let count = (count_program program).count in
    omega (arith, ltb-true (place / 2) count (both (ltb (place / 2) count) _ h).0, at_most program)

fit_held : (setting : Setting) (r : Record) (ram : List ℕ) → external_fits (length setting.external) ≡ true → Fit setting r ram → Words r ram
    → Held r
unfolding fit_record
fit_held setting r ram e f w =
    let parts = both (sp_fits r.sp) (base_fits r.base (length setting.external)) f.record_fits in
    record {
      eight = w.eight;
      words = w.words;
      sp = sp_below r.sp parts.0;
      offset = base_below r.base (length setting.external) (external_below (length setting.external) e) parts.1;
      place = place_below setting.program r.place f.place_fits;
    }

-- ---- a run

-- one that isn't refused, of a page by itself
pub held_after : (setting : Setting) → Bytes setting.program.page → Bytes setting.external → (total : ℕ) (r : Record) (ram : List ℕ)
    → run_decision setting r ram ≡ accepted → Held r → Bytes ram → Held (plain (instruction_of setting) total 0 r ram).rec
held_after setting p e total r ram q h m =
    let after = admitted_allowed setting _ _ (admits_after (machine setting) (code_keeps setting) total r ram q) in
    fit_held setting _ _ after.data_allowed after.fits
    (run_keeps (instruction_of setting) Words (λ s after w. words_kept setting p e s after w)
    total 0 r ram (record { eight = h.eight; words = h.words; bytes = m }))
