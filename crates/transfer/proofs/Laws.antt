-- The tests of a transfer one by one, and the words of a frame as the code makes them.
use Rattle.std.specs.Prelude.{Result, Ok, Err}
use Prim.Native.Nat.{ℕ, ◌+◌, ◌-◌, ◌*◌, ◌≤◌}
use native.Mathlib.Omega.{arith}
use mathlib.Core.Bool.{Bool, true, false, cond, ◌||◌, true≢false}
use mathlib.Core.List.{List, [], ◌∷◌}
use mathlib.Core.Path.{◌≡◌, refl, sym, ap}
use lib.Dec.{ltb, eqb}
use lib.ListN.{length, get_or, set}
use lib.Seq.{take_all}
use borrow.Author.Tests.{lt-ltb, ltb-true, ltb-false, ne_eqb}
use Rattle.literal.specs.Literals.{call_address, call_words}
use Rattle.image.specs.Images.{Image}
use Rattle.window.specs.declared.Window.{Window}
use Rattle.memory.specs.declared.Fault.{Fault}
use Rattle.state.specs.FitRecord.{fp_fits}
use Rattle.frame.specs.Frames.{frame_of, restored, saved_pc, saved_fp, load_words, offset_of, frame_access, words_if, saved_at}
use Rattle.address.specs.Addresses.{page_of, place_of, in_image, fit_in, fit_address}
use Rattle.transfer.specs.Transfers.{Transfer, moves, stays, fails, when_done, to_target, push, enter, call, top_of, replace, tail_call, leave, return, target_met, low_met, place_met, frame_met, ram_left}
use Rattle.transfer.specs.declared.Linkage.{Linkage}
use Rattle.transfer.specs.declared.TransferFault.{TransferFault}
use Rattle.transfer.specs.declared.TransferFault.TheVariants.{UnfitPlace, LowFrame, UnfitFrame}

-- ---- the words of a frame: of eight, the first two are others

pub framed : (regs : List ℕ) (pc fp : ℕ) → length regs ≡ 8 → set (set regs 0 pc) 1 fp ≡ frame_of pc fp regs
framed [] pc fp l = absurd (omega (arith, l))
framed (a ∷ []) pc fp l = absurd (omega (arith, l))
framed (a ∷ b ∷ regs) pc fp l = ap (λ (rest : List ℕ). pc ∷ fp ∷ rest) (sym (take_all 6 regs (omega (arith, l))))

pub restoring : (regs words : List ℕ) → length regs ≡ 8 → length words ≡ 8
    → set (set words 0 (get_or regs 0 0)) 1 (get_or regs 1 0) ≡ restored regs words
restoring [] words l m = absurd (omega (arith, l))
restoring (a ∷ []) words l m = absurd (omega (arith, l))
restoring (a ∷ b ∷ regs) [] l m = absurd (omega (arith, m))
restoring (a ∷ b ∷ regs) (x ∷ []) l m = absurd (omega (arith, m))
restoring (a ∷ b ∷ regs) (x ∷ y ∷ words) l m = refl

-- ---- what stands in the way, and what is done where nothing does

abbrev pub target_then : Result Bool TransferFault → Transfer → Transfer
target_then (Ok true) next = next
target_then (Ok false) next = stays
target_then (Err fault) next = fails fault

abbrev pub met_then : Result Unit TransferFault → Transfer → Transfer
met_then (Ok t) next = next
met_then (Err fault) next = fails fault

pub low_moves : (sp : ℕ) → low_met sp ≡ Ok tt → 0x10000 ≤ sp
low_moves sp = go (ltb sp 0x10000) refl
  where
    go : (low : Bool) → ltb sp 0x10000 ≡ low → cond {A = Result Unit TransferFault} low (Err LowFrame) (Ok tt) ≡ Ok tt → 0x10000 ≤ sp
    go true e x = absurd (true≢false cc)
    go false e x = ltb-false sp 0x10000 e

pub place_moves : (image : Image) (pc : ℕ) → place_met image pc ≡ Ok tt → fit_address image pc ≡ true
place_moves image pc = go (fit_address image pc)
  where
    go : (fit : Bool) → cond {A = Result Unit TransferFault} fit (Ok tt) (Err UnfitPlace) ≡ Ok tt → fit ≡ true
    go true x = refl
    go false x = absurd (true≢false cc)

-- a target, then the room below
by_target : (inside fit low : Bool) (next : Transfer)
    → cond inside (cond fit (cond low (fails LowFrame) next) (fails UnfitPlace)) stays
    ≡ target_then (cond inside (cond fit (Ok true) (Err UnfitPlace)) (Ok false)) (met_then (cond low (Err LowFrame) (Ok tt)) next)
by_target true true true next = refl
by_target true true false next = refl
by_target true false low next = refl
by_target false fit low next = refl

-- ---- a call

-- what lies below, by one test
low_once : (sp n : ℕ) → (ltb (sp - 32) 0x10000 || ltb (sp - 32 - 4 * n) 0x10000) ≡ ltb (sp - (32 + 4 * n)) 0x10000
low_once sp n = by (ltb (sp - 32) 0x10000) refl
  where
    same : sp - 32 - 4 * n ≡ sp - (32 + 4 * n)
    same = omega arith

    by : (t : Bool) → ltb (sp - 32) 0x10000 ≡ t → (t || ltb (sp - 32 - 4 * n) 0x10000) ≡ ltb (sp - (32 + 4 * n)) 0x10000
    by true h = sym (lt-ltb (sp - (32 + 4 * n)) 0x10000 (omega (arith, ltb-true (sp - 32) 0x10000 h)))
    by false h = ap (λ x. ltb x 0x10000) same

pub call_met : (image : Image) (window : Window) (w behind : ℕ) (at : Linkage) (regs ram : List ℕ)
    → call image window w behind at regs ram
    ≡ target_then (target_met image (call_address w))
    (met_then (low_met (at.sp - (32 + 4 * call_words w))) (push window (call_address w) (call_words w) behind at regs ram))
unfolding call to_target enter
call_met image window w behind at regs ram =
    let address = call_address w in
    rw (low_once at.sp (call_words w))
    (by_target (in_image image (page_of address)) (fit_in image (page_of address) (place_of address)) (ltb (at.sp - (32 + 4 * call_words w)) 0x10000)
    (push window address (call_words w) behind at regs ram))

-- ---- a tail call: SP lies below `top`

pub tail_met : (image : Image) (w : ℕ) (at : Linkage) (regs ram : List ℕ)
    → tail_call image w at regs ram
    ≡ target_then (target_met image (call_address w))
    (met_then (low_met (top_of at.fp - 4 * call_words w))
    (moves (record { sp = top_of at.fp - 4 * call_words w; fp = at.fp; page = page_of (call_address w); place = place_of (call_address w) }) regs ram))
unfolding tail_call to_target replace
tail_met image w at regs ram =
    let address = call_address w in
    by_target (in_image image (page_of address)) (fit_in image (page_of address) (place_of address)) (ltb (top_of at.fp - 4 * call_words w) 0x10000) _

-- ---- a return

by_frame : (place chain : Bool) (next : Transfer)
    → cond place (cond chain next (fails UnfitFrame)) (fails UnfitPlace)
    ≡ met_then (cond place (Ok tt) (Err UnfitPlace)) (met_then (cond chain (Ok tt) (Err UnfitFrame)) next)
by_frame true true next = refl
by_frame true false next = refl
by_frame false chain next = refl

pub leave_met : (image : Image) (at : Linkage) (regs words ram : List ℕ)
    → leave image at regs words ram
    ≡ met_then (place_met image (saved_pc words)) (met_then (frame_met (saved_fp words))
    (moves (record { sp = at.fp + 32; fp = saved_fp words; page = page_of (saved_pc words); place = place_of (saved_pc words) }) (restored regs words) ram))
unfolding leave
leave_met image at regs words ram = by_frame (fit_address image (saved_pc words)) (fp_fits (saved_fp words)) _

-- the access of a frame that was read is done
pub read_done : (window : Window) (ram : List ℕ) (address : ℕ) (words : List ℕ) → saved_at window ram address ≡ Ok words → frame_access window address ≡ Ok tt
read_done window ram address words = go (frame_access window address)
  where
    go : (a : Result Unit Fault) → words_if a (load_words 8 ram (offset_of address)) ≡ Ok words → a ≡ Ok tt
    go (Ok tt) e = refl
    go (Err fault) e = absurd (true≢false cc)

module _ (image : Image) (window : Window) (at : Linkage) (regs ram : List ℕ) where
  pub return_met : return image window at regs ram
      ≡ cond (eqb at.fp 0) stays (when_done (frame_access window at.fp) (leave image at regs (load_words 8 ram (offset_of at.fp)) ram))
  unfolding return
  return_met = refl

  pub return_by : (at.fp ≡ 0 → ⊥) → frame_access window at.fp ≡ Ok tt → (words : List ℕ) → load_words 8 ram (offset_of at.fp) ≡ words
      → return image window at regs ram ≡ leave image at regs words ram
  unfolding return when_done
  return_by n there words read = rw (ne_eqb at.fp 0 n, there, read)

-- ---- what leaves RAM as it was

still_if : (ram : List ℕ) (t : Bool) (x y : Transfer) → ram ≡ ram_left ram x → ram ≡ ram_left ram y → ram ≡ ram_left ram (cond t x y)
still_if ram true x y e f = e
still_if ram false x y e f = f

pub tail_still : (image : Image) (w : ℕ) (at : Linkage) (regs ram : List ℕ) → ram ≡ ram_left ram (tail_call image w at regs ram)
unfolding tail_call to_target replace
tail_still image w at regs ram =
    let address = call_address w in
    still_if ram (in_image image (page_of address)) _ _
    (still_if ram (fit_in image (page_of address) (place_of address)) _ _ (still_if ram (ltb (top_of at.fp - 4 * call_words w) 0x10000) _ _ refl refl) refl) refl

leave_still : (image : Image) (at : Linkage) (regs words ram : List ℕ) → ram ≡ ram_left ram (leave image at regs words ram)
unfolding leave
leave_still image at regs words ram =
    still_if ram (fit_address image (saved_pc words)) _ _ (still_if ram (fp_fits (saved_fp words)) _ _ refl refl) refl

pub return_still : (image : Image) (window : Window) (at : Linkage) (regs ram : List ℕ) → ram ≡ ram_left ram (return image window at regs ram)
unfolding return when_done
return_still image window at regs ram = still_if ram (eqb at.fp 0) _ _ refl (go (frame_access window at.fp))
  where
    go : (a : Result Unit Fault) → ram ≡ ram_left ram (when_done a (leave image at regs (load_words 8 ram (offset_of at.fp)) ram))
    go (Ok t) = leave_still image at regs (load_words 8 ram (offset_of at.fp)) ram
    go (Err f) = refl
