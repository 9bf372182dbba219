-- What a transfer leaves: a fit place of the image, SP and FP as a fit record's, RAM of its length. It meets no fault but 7 to 10.
use Rattle.std.specs.Prelude.{Result, Ok, Err}
use Prim.Native.Nat.{ℕ, ◌+◌, ◌-◌, ◌*◌, ◌≤◌}
use native.Mathlib.Omega.{arith}
use mathlib.Core.Bool.{Bool, true, false, cond, ◌||◌}
use mathlib.Core.List.{List}
use mathlib.Core.Logic.{◌⊎◌, inl, inr}
use mathlib.Core.Path.{◌≡◌, refl}
use lib.Dec.{eqb, ltb}
use lib.ListN.{length}
use borrow.Author.Tests.{eqb-false, eq-eqb, ltb-false}
use Rattle.laws.proofs.Tests.{second}
use Rattle.literal.specs.Literals.{call_address, call_words}
use Rattle.image.specs.Images.{Image}
use Rattle.window.specs.declared.Window.{Window}
use Rattle.memory.specs.declared.Fault.{Fault}
use Rattle.state.specs.FitRecord.{sp_fits, fp_fits}
use Rattle.state.proofs.Stack.{InStack, sp_in_stack, in_stack_fits, FrameInRam, fp_none_or_frame, frame_fits}
use Rattle.frame.specs.Frames.{frame_of, saved_pc, saved_fp, restored, store_words, load_words, offset_of, frame_access}
use Rattle.frame.proofs.InRam.{InWindowOr7, frame_met_lem}
use Rattle.frame.proofs.Words.{length_words}
use Rattle.address.specs.Addresses.{address_of, page_of, place_of, in_image, fit_in, fit_address}
use Rattle.address.proofs.Theorems.{fit_address_lem}
use Rattle.asking.specs.declared.Asked.{Asked}
use Rattle.asking.specs.declared.Asked.TheVariants as asked
use Rattle.transfer.specs.Faults.{transfer_fault_number}
use Rattle.transfer.specs.Transfers.{Transfer, moves, stays, fails, when_done, to_target, push, enter, call, top_of, replace, tail_call, leave, return, transfer}
use Rattle.transfer.specs.declared.Linkage.{Linkage}
use Rattle.transfer.specs.declared.TransferFault.TheVariants.{UnfitPlace, LowFrame, UnfitFrame}

-- SP and FP as a fit record's
pub record FitStack (at : Linkage) : Type 0 where
  pub sp : sp_fits at.sp ≡ true
  pub fp : fp_fits at.fp ≡ true

module _ (image : Image) where
  abbrev pub MovesFit : ℕ → Transfer → Type 0
  MovesFit bytes (moves to regs ram) = FitStack to × (fit_in image to.page to.place ≡ true) × (length ram ≡ bytes)
  MovesFit bytes stays = Unit {0}
  MovesFit bytes (fails fault) = (7 ≤ transfer_fault_number fault) × (transfer_fault_number fault ≤ 10)

  -- ---- a target

  target_fits : (bytes address : ℕ) (next : Transfer) → (fit_in image (page_of address) (place_of address) ≡ true → MovesFit bytes next)
      → MovesFit bytes (to_target image address next)
  unfolding to_target
  target_fits bytes address next h = go (in_image image (page_of address)) (fit_in image (page_of address) (place_of address)) refl
    where
      go : (inside fit : Bool) → fit_in image (page_of address) (place_of address) ≡ fit
          → MovesFit bytes (cond inside (cond fit next (fails UnfitPlace)) stays)
      go true true e = h e
      go true false e = omega arith
      go false fit e = tt

  -- ---- each transfer, from a fit stack

  module _ (window : Window) (at : Linkage) (regs ram : List ℕ) (fit : FitStack at) where
    stack : InStack at.sp
    stack = sp_in_stack at.sp fit.sp

    done-or-outside : (a : Result Unit Fault) (next : Transfer) → InWindowOr7 a → MovesFit (length ram) next → MovesFit (length ram) (when_done a next)
    unfolding when_done
    done-or-outside (Ok t) next m h = h
    done-or-outside (Err fault) next m h = rw m (omega arith)

    enter-fits : (address n behind : ℕ) → fit_in image (page_of address) (place_of address) ≡ true
        → MovesFit (length ram) (enter window address n behind at regs ram)
    unfolding enter push
    enter-fits address n behind there = go (ltb frame 0x10000 || ltb (frame - 4 * n) 0x10000) refl
      where
        frame : ℕ
        frame = at.sp - 32

        after : Transfer
        after =
            moves (record { sp = frame - 4 * n; fp = frame; page = page_of address; place = place_of address }) regs
            (store_words ram (offset_of frame) (frame_of (address_of at.page behind) at.fp regs))

        go : (low : Bool) → (ltb frame 0x10000 || ltb (frame - 4 * n) 0x10000) ≡ low
            → MovesFit (length ram) (cond low (fails LowFrame) (when_done (frame_access window frame) after))
        go true e = omega arith
        go false e =
            let below = ltb-false (frame - 4 * n) 0x10000 (second (ltb frame 0x10000) (ltb (frame - 4 * n) 0x10000) e) in
            done-or-outside (frame_access window frame) after
            (frame_met_lem window frame (omega (arith, stack.high)) (omega (arith, stack.high))) (
              record {
                sp = in_stack_fits (frame - 4 * n) (record { low = below; high = omega (arith, stack.high); aligned = omega (arith, stack.aligned) });
                fp = frame_fits frame (record { low = omega arith; high = omega (arith, stack.high); aligned = omega (arith, stack.aligned) });
              },
              there,
              length_words ram (offset_of frame) (frame_of (address_of at.page behind) at.fp regs),
            )

    top-fits : InStack (top_of at.fp)
    top-fits = go (fp_none_or_frame at.fp fit.fp)
      where
        go : (at.fp ≡ 0) ⊎ FrameInRam at.fp → InStack (top_of at.fp)
        go (inl none) = rw (eq-eqb at.fp 0 none) (record { low = omega arith; high = omega arith; aligned = refl })
        go (inr frame) = by (eqb at.fp 0)
          where
            by : (t : Bool) → InStack (cond t 0x18000 at.fp)
            by true = record { low = omega arith; high = omega arith; aligned = refl }
            by false = record { low = frame.low; high = omega (arith, frame.high); aligned = frame.aligned }

    replace-fits : (address n : ℕ) → fit_in image (page_of address) (place_of address) ≡ true → MovesFit (length ram) (replace address n at regs ram)
    unfolding replace
    replace-fits address n there = go (ltb (top_of at.fp - 4 * n) 0x10000) refl
      where
        sp : ℕ
        sp = top_of at.fp - 4 * n

        go : (low : Bool) → ltb sp 0x10000 ≡ low
            → MovesFit (length ram) (cond low (fails LowFrame) (moves (record { sp = sp; fp = at.fp; page = page_of address; place = place_of address }) regs ram))
        go true e = omega arith
        go false e = (
          record {
            sp = in_stack_fits sp (record { low = ltb-false sp 0x10000 e; high = omega (arith, top-fits.high); aligned = omega (arith, top-fits.aligned, ltb-false sp 0x10000 e) });
            fp = fit.fp;
          },
          there,
          refl,
        )

    leave_fits : (words : List ℕ) → FrameInRam at.fp → MovesFit (length ram) (leave image at regs words ram)
    unfolding leave
    leave_fits words frame = go (fit_address image (saved_pc words)) (fp_fits (saved_fp words)) refl refl
      where
        to : Linkage
        to = record { sp = at.fp + 32; fp = saved_fp words; page = page_of (saved_pc words); place = place_of (saved_pc words) }

        go : (place chain : Bool) → fit_address image (saved_pc words) ≡ place → fp_fits (saved_fp words) ≡ chain
            → MovesFit (length ram) (cond place (cond chain (moves to (restored regs words) ram) (fails UnfitFrame)) (fails UnfitPlace))
        go true true e f = (
          record {
            sp = in_stack_fits (at.fp + 32) (record { low = omega (arith, frame.low); high = frame.high; aligned = omega (arith, frame.aligned) });
            fp = f;
          },
          fit_address_lem image (saved_pc words) e,
          refl,
        )
        go true false e f = omega arith
        go false chain e f = omega arith

    return_fits : MovesFit (length ram) (return image window at regs ram)
    unfolding return
    return_fits = go (eqb at.fp 0) refl
      where
        next : Transfer
        next = when_done (frame_access window at.fp) (leave image at regs (load_words 8 ram (offset_of at.fp)) ram)

        framed : (at.fp ≡ 0) ⊎ FrameInRam at.fp → (at.fp ≡ 0 → ⊥) → MovesFit (length ram) next
        framed (inl none) n = absurd (n none)
        framed (inr frame) n =
            done-or-outside (frame_access window at.fp) (leave image at regs (load_words 8 ram (offset_of at.fp)) ram)
            (frame_met_lem window at.fp frame.low frame.high) (leave_fits (load_words 8 ram (offset_of at.fp)) frame)

        go : (none : Bool) → eqb at.fp 0 ≡ none → MovesFit (length ram) (cond none stays next)
        go true e = tt
        go false e = framed (fp_none_or_frame at.fp fit.fp) (eqb-false at.fp 0 e)

    pub transfer_fits : (asks : Asked) (behind : ℕ) → MovesFit (length ram) (transfer image window asks behind at regs ram)
    unfolding transfer call tail_call
    transfer_fits asked.NoTransfer behind = tt
    transfer_fits (asked.Call w) behind =
        target_fits (length ram) (call_address w) (enter window (call_address w) (call_words w) behind at regs ram)
        (enter-fits (call_address w) (call_words w) behind)
    transfer_fits (asked.TailCall w) behind =
        target_fits (length ram) (call_address w) (replace (call_address w) (call_words w) at regs ram) (replace-fits (call_address w) (call_words w))
    transfer_fits asked.Return behind = return_fits
