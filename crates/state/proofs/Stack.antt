-- What the tests of SP and FP say in numbers.
use Prim.Native.Nat.{ℕ, ◌+◌, ◌%◌, ◌≤◌}
use mathlib.Core.Bool.{Bool, true, false, ◌&&◌, ◌||◌}
use mathlib.Core.Logic.{◌⊎◌, inl, inr}
use mathlib.Core.Path.{◌≡◌, refl}
use lib.Dec.{eqb, leb}
use borrow.Author.Tests.{eqb-true, eq-eqb, leb-true, le-leb}
use Rattle.laws.proofs.Tests.{both, either}
use Rattle.state.specs.FitRecord.{sp_fits, fp_fits}

pub record InStack (sp : ℕ) : Type 0 where
  pub low : 0x10000 ≤ sp
  pub high : sp ≤ 0x18000
  pub aligned : sp % 4 ≡ 0

pub sp_in_stack : (sp : ℕ) → sp_fits sp ≡ true → InStack sp
sp_in_stack sp e =
    let parts = both (leb 0x10000 sp && leb sp 0x18000) (eqb (sp % 4) 0) e in
    let bounds = both (leb 0x10000 sp) (leb sp 0x18000) parts.0 in
    record { low = leb-true 0x10000 sp bounds.0; high = leb-true sp 0x18000 bounds.1; aligned = eqb-true (sp % 4) 0 parts.1 }

pub in_stack_fits : (sp : ℕ) → InStack sp → sp_fits sp ≡ true
in_stack_fits sp s = rw (le-leb 0x10000 sp s.low, le-leb sp 0x18000 s.high) (eq-eqb (sp % 4) 0 s.aligned)

-- a frame in RAM
pub record FrameInRam (fp : ℕ) : Type 0 where
  pub low : 0x10000 ≤ fp
  pub high : fp + 32 ≤ 0x18000
  pub aligned : fp % 4 ≡ 0

pub fp_none_or_frame : (fp : ℕ) → fp_fits fp ≡ true → (fp ≡ 0) ⊎ FrameInRam fp
fp_none_or_frame fp e = go (either (eqb fp 0) (eqb (fp % 4) 0 && (leb 0x10000 fp && leb (fp + 32) 0x18000)) e)
  where
    go : (eqb fp 0 ≡ true) ⊎ (eqb (fp % 4) 0 && (leb 0x10000 fp && leb (fp + 32) 0x18000) ≡ true) → (fp ≡ 0) ⊎ FrameInRam fp
    go (inl none) = inl (eqb-true fp 0 none)
    go (inr frame) =
        let parts = both (eqb (fp % 4) 0) (leb 0x10000 fp && leb (fp + 32) 0x18000) frame in
        let bounds = both (leb 0x10000 fp) (leb (fp + 32) 0x18000) parts.1 in
        inr (record { low = leb-true 0x10000 fp bounds.0; high = leb-true (fp + 32) 0x18000 bounds.1; aligned = eqb-true (fp % 4) 0 parts.0 })

pub frame_fits : (fp : ℕ) → FrameInRam fp → fp_fits fp ≡ true
frame_fits fp f = go (eqb fp 0)
  where
    go : (t : Bool) → (t || (eqb (fp % 4) 0 && (leb 0x10000 fp && leb (fp + 32) 0x18000))) ≡ true
    go true = refl
    go false = rw (eq-eqb (fp % 4) 0 f.aligned, le-leb 0x10000 fp f.low) (le-leb (fp + 32) 0x18000 f.high)
