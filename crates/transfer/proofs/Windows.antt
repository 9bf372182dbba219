-- Transfers by two windows and in two related RAMs come to the same.
use Rattle.std.specs.Prelude.{Result, Err}
use Prim.Native.Nat.{ℕ, zero, suc, ◌+◌, ◌-◌, ◌*◌, ◌≤◌}
use native.Mathlib.Omega.{arith}
use mathlib.Core.Bool.{Bool, true, false, cond, ◌||◌}
use mathlib.Core.List.{List, [], ◌∷◌}
use mathlib.Core.Path.{◌≡◌, refl, ap}
use lib.Dec.{eqb, ltb}
use lib.ListN.{length, drop, length-take}
use Rattle.literal.specs.Literals.{call_address, call_words}
use Rattle.endian.specs.LittleEndian.{store_le}
use Rattle.image.specs.Images.{Image}
use Rattle.window.specs.Windows.{inside_window}
use Rattle.window.specs.declared.Window.{Window}
use Rattle.memory.specs.Memory.{ram_access}
use Rattle.memory.specs.declared.Fault.{Fault}
use Rattle.memory.specs.declared.Fault.TheVariants.{PastStack, LowStack}
use Rattle.memory.proofs.Alike.{Alike, both, fault, outside, Related, BothPass, accesses}
use Rattle.state.specs.FitRecord.{fp_fits}
use Rattle.frame.specs.Frames.{frame_of, saved_pc, saved_fp, restored, store_words, load_words, offset_of, frame_access}
use Rattle.frame.proofs.Words.{part_inside}
use Rattle.address.specs.Addresses.{address_of, page_of, place_of, in_image, fit_in, fit_address}
use Rattle.asking.specs.declared.Asked.{Asked}
use Rattle.asking.specs.declared.Asked.TheVariants as asked
use Rattle.transfer.specs.Faults.{transfer_fault_number}
use Rattle.transfer.specs.Transfers.{Transfer, moves, stays, fails, when_done, to_target, push, enter, call, top_of, replace, tail_call, leave, return, transfer}
use Rattle.transfer.specs.declared.Linkage.{Linkage}
use Rattle.transfer.specs.declared.TransferFault.{TransferFault}
use Rattle.transfer.specs.declared.TransferFault.TheVariants.{Memory, UnfitPlace, LowFrame, UnfitFrame}

-- the same, but for the RAMs
pub data BothTransfers (S : List ℕ → List ℕ → Type 0) (x y : Transfer) : Type 0 where
  both_move : (to : Linkage) (regs a b : List ℕ) → x ≡ moves to regs a → y ≡ moves to regs b → S a b → BothTransfers S x y
  both_stay : x ≡ stays → y ≡ stays → BothTransfers S x y
  -- a fault that is no window's
  both_fail : (f : TransferFault) → eqb (transfer_fault_number f) 7 ≡ false → x ≡ fails f → y ≡ fails f → BothTransfers S x y

abbrev pub TransfersAlike : Window → Window → (List ℕ → List ℕ → Type 0) → Transfer → Transfer → Type 0
TransfersAlike w v S = Alike w v (λ f. fails (Memory f)) (BothTransfers S)

module _ (w v : Window) (S : List ℕ → List ℕ → Type 0) (h : Related w v S) where
  abbrev Same : Transfer → Transfer → Type 0
  Same = TransfersAlike w v S

  -- ---- a test that is the same, and an access that is done or not

  either_way : (t : Bool) (x x' y y' : Transfer) → Same x x' → Same y y' → Same (cond t x y) (cond t x' y')
  either_way true x x' y y' p q = p
  either_way false x x' y y' p q = q

  left_alone : Same stays stays
  left_alone = both (both_stay refl refl)

  done_alike : (at bytes : ℕ) (x y : Result Unit Fault) (next next' : Transfer) → Alike w v Err (BothPass w at bytes) x y
      → (inside_window w at bytes ≡ true → Same next next') → Same (when_done x next) (when_done y next')
  unfolding when_done
  done_alike at bytes x y next next' (both p) k = rw (p.0, p.1) (k p.2)
  done_alike at bytes x y next next' (fault f n p q) k = fault f n (ap (λ (a : Result Unit Fault). when_done a next) p) (ap (λ (a : Result Unit Fault). when_done a next') q)
  done_alike at bytes x y next next' (outside a n i j p q) k =
      outside a n i j (ap (λ (t : Result Unit Fault). when_done t next) p) (λ t. ap (λ (u : Result Unit Fault). when_done u next') (q t))

  -- ---- frames

  frames : (address : ℕ) → Alike w v Err (BothPass w (offset_of address) 32) (frame_access w address) (frame_access v address)
  unfolding frame_access
  frames address = go (ltb address 0x10000)
    where
      go : (low : Bool) → Alike w v Err (BothPass w (offset_of address) 32)
          (cond low (Err LowStack) (ram_access w (offset_of address) 32 PastStack))
          (cond low (Err LowStack) (ram_access v (offset_of address) 32 PastStack))
      go true = fault LowStack refl refl refl
      go false = accesses w v S h (offset_of address) 32 PastStack refl

  words_read : (n at : ℕ) (a b : List ℕ) → S a b → inside_window w at (4 * n) ≡ true → load_words n a at ≡ load_words n b at
  words_read zero at a b s i = refl
  words_read (suc n) at a b s i =
      rw (
        h.reads a b s at 4 (part_inside w at (4 * suc n) at 4 i (omega arith) (omega arith)),
        words_read n (at + 4) a b s (part_inside w at (4 * suc n) (at + 4) (4 * n) i (omega arith) (omega arith)),
      )

  words_written : (words : List ℕ) (at : ℕ) (a b : List ℕ) → S a b → inside_window w at (4 * length words) ≡ true
      → S (store_words a at words) (store_words b at words)
  words_written [] at a b s i = s
  words_written (x ∷ words) at a b s i =
      words_written words (at + 4) (store_le 4 a at x) (store_le 4 b at x)
      (h.writes a b s at 4 x (part_inside w at (4 * suc (length words)) at 4 i (omega arith) (omega arith)))
      (part_inside w at (4 * suc (length words)) (at + 4) (4 * length words) i (omega arith) (omega arith))

  -- ---- each transfer

  module _ (image : Image) (at : Linkage) (regs a b : List ℕ) (s : S a b) where
    target-alike : (address : ℕ) (x y : Transfer) → Same x y → Same (to_target image address x) (to_target image address y)
    unfolding to_target
    target-alike address x y p =
        either_way (in_image image (page_of address)) _ _ _ _
        (either_way (fit_in image (page_of address) (place_of address)) _ _ _ _ p (both (both_fail UnfitPlace refl refl refl))) left_alone

    push-alike : (address n behind : ℕ) → Same (push w address n behind at regs a) (push v address n behind at regs b)
    unfolding push
    push-alike address n behind =
        done_alike (offset_of frame) 32 (frame_access w frame) (frame_access v frame) _ _ (frames frame)
        (λ i. both (both_move _ regs _ _ refl refl (words_written words (offset_of frame) a b s (part_inside w (offset_of frame) 32 (offset_of frame) (4 * length words) i (omega arith) few))))
      where
        frame : ℕ
        frame = at.sp - 32

        words : List ℕ
        words = frame_of (address_of at.page behind) at.fp regs

        few : offset_of frame + 4 * length words ≤ offset_of frame + 32
        few = omega (arith, length-take 6 (drop 2 regs))

    enter-alike : (address n behind : ℕ) → Same (enter w address n behind at regs a) (enter v address n behind at regs b)
    unfolding enter
    enter-alike address n behind =
        either_way (ltb (at.sp - 32) 0x10000 || ltb (at.sp - 32 - 4 * n) 0x10000) _ _ _ _ (both (both_fail LowFrame refl refl refl)) (push-alike address n behind)

    replace-alike : (address n : ℕ) → Same (replace address n at regs a) (replace address n at regs b)
    unfolding replace
    replace-alike address n =
        either_way (ltb (top_of at.fp - 4 * n) 0x10000) _ _ _ _ (both (both_fail LowFrame refl refl refl)) (both (both_move _ regs a b refl refl s))

    leave-alike : (words : List ℕ) → Same (leave image at regs words a) (leave image at regs words b)
    unfolding leave
    leave-alike words =
        either_way (fit_address image (saved_pc words)) _ _ _ _
        (either_way (fp_fits (saved_fp words)) _ _ _ _ (both (both_move _ (restored regs words) a b refl refl s)) (both (both_fail UnfitFrame refl refl refl)))
        (both (both_fail UnfitPlace refl refl refl))

    return-alike : Same (return image w at regs a) (return image v at regs b)
    unfolding return
    return-alike =
        either_way (eqb at.fp 0) _ _ _ _ left_alone
        (done_alike (offset_of at.fp) 32 (frame_access w at.fp) (frame_access v at.fp) _ _ (frames at.fp)
        (λ i. rw (words_read 8 (offset_of at.fp) a b s i) (leave-alike (load_words 8 b (offset_of at.fp)))))

    pub transfers_alike : (asks : Asked) (behind : ℕ) → Same (transfer image w asks behind at regs a) (transfer image v asks behind at regs b)
    unfolding transfer call tail_call
    transfers_alike asked.NoTransfer behind = left_alone
    transfers_alike (asked.Call word) behind = target-alike (call_address word) _ _ (enter-alike (call_address word) (call_words word) behind)
    transfers_alike (asked.TailCall word) behind = target-alike (call_address word) _ _ (replace-alike (call_address word) (call_words word))
    transfers_alike asked.Return behind = return-alike
