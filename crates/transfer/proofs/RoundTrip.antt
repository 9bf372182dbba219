-- A call, and the return that meets its frame untouched, give the caller back r2 to r7, FP, SP, its page and the place behind the call.
use Rattle.std.specs.Prelude.{Result, Ok, Err}
use Prim.Native.Nat.{ℕ, zero, suc, ◌+◌, ◌-◌, ◌*◌, ◌^◌, ◌<◌, ◌≤◌}
use native.Mathlib.Omega.{arith}
use mathlib.Core.Bool.{Bool, true, false, true≢false}
use mathlib.Core.List.{List, []}
use mathlib.Core.Logic.{◌⊎◌, inl, inr}
use mathlib.Core.Path.{◌≡◌, refl, sym, ap, ◌∙◌}
use lib.ListN.{length, get_or, take, drop, length-drop}
use lib.Seq.{take_all, get_or-drop}
use Rattle.literal.specs.Literals.{call_address, call_words}
use Rattle.image.specs.Images.{Image}
use Rattle.window.specs.declared.Window.{Window}
use Rattle.memory.specs.declared.Fault.{Fault}
use Rattle.state.specs.FitRecord.{fp_fits}
use Rattle.state.proofs.Stack.{FrameInRam, fp_none_or_frame}
use Rattle.frame.specs.Frames.{frame_of, restored, store_words, load_words, offset_of, frame_access}
use Rattle.frame.proofs.InRam.{frame_done, done_small}
use Rattle.frame.proofs.Words.{words_back}
use Rattle.address.specs.Addresses.{address_of, fit_in}
use Rattle.address.proofs.Theorems.{in_image_lem, fit_in_lem, page_of_lem, place_of_lem, address_fits}
use Rattle.transfer.specs.Transfers.{Transfer, moves, stays, fails, when_done, push, call, leave, return, target_met, low_met}
use Rattle.transfer.specs.declared.Linkage.{Linkage}
use Rattle.transfer.specs.declared.TransferFault.{TransferFault}
use Rattle.transfer.proofs.Laws.{target_then, met_then, low_moves, call_met, return_by}

-- ---- what a call that was made says

module _ (to : Linkage) (regs after : List ℕ) where
  reached : (m : Result Bool TransferFault) (next : Transfer) → target_then m next ≡ moves to regs after → next ≡ moves to regs after
  reached (Ok true) next e = e
  reached (Ok false) next e = absurd (true≢false cc)
  reached (Err f) next e = absurd (true≢false cc)

  then_moves : (m : Result Unit TransferFault) (next : Transfer) → met_then m next ≡ moves to regs after → (m ≡ Ok tt) × (next ≡ moves to regs after)
  then_moves (Ok t) next e = (refl, e)
  then_moves (Err f) next e = absurd (true≢false cc)

  done_moves : (a : Result Unit Fault) (next : Transfer) → when_done a next ≡ moves to regs after → (a ≡ Ok tt) × (next ≡ moves to regs after)
  unfolding when_done
  done_moves (Ok t) next e = (refl, e)
  done_moves (Err f) next e = absurd (true≢false cc)

abbrev stack_of : Transfer → ℕ
stack_of (moves to regs ram) = to.fp
stack_of stays = 0
stack_of (fails f) = 0

abbrev ram_of : Transfer → List ℕ
ram_of (moves to regs ram) = ram
ram_of stays = []
ram_of (fails f) = []

module _ (image : Image) (window : Window) (w behind : ℕ) (at to : Linkage) (regs callee ram after : List ℕ)
    (made : call image window w behind at regs ram ≡ moves to callee after) where
  pub record Pushed : Type 0 where
    pub frame : to.fp ≡ at.sp - 32
    pub room : 32 ≤ at.sp
    pub done : frame_access window to.fp ≡ Ok tt
    pub written : after ≡ store_words ram (offset_of to.fp) (frame_of (address_of at.page behind) at.fp regs)

  pub pushed : Pushed
  unfolding push
  pushed =
      let below = low_met (at.sp - (32 + 4 * call_words w)) in
      let next = push window (call_address w) (call_words w) behind at regs ram in
      let target = reached to callee after (target_met image (call_address w)) (met_then below next) (sym (call_met image window w behind at regs ram) ∙ made) in
      let met = then_moves to callee after below next target in
      let low = low_moves (at.sp - (32 + 4 * call_words w)) met.0 in
      let there = done_moves to callee after (frame_access window (at.sp - 32)) _ met.1 in
      let fp : at.sp - 32 ≡ to.fp = ap stack_of there.1 in
      record {
        frame = sym fp;
        room = omega arith;
        done = ap (frame_access window) (sym fp) ∙ there.0;
        written = sym (ap ram_of there.1) ∙ ap (λ x. store_words ram (offset_of x) (frame_of (address_of at.page behind) at.fp regs)) fp;
      }

-- ---- the return

-- the caller's registers and place
pub record Caller (image : Image) (at : Linkage) (behind : ℕ) (regs : List ℕ) : Type 0 where
  pub eight : length regs ≡ 8
  pub words : (k : ℕ) → get_or regs k 0 < 2 ^ 32
  pub fp : fp_fits at.fp ≡ true
  pub place : behind < 128
  pub fits : fit_in image at.page behind ≡ true

module _ (image : Image) (window : Window) (w behind : ℕ) (at to : Linkage) (regs callee ram after : List ℕ)
    (made : call image window w behind at regs ram ≡ moves to callee after) (caller : Caller image at behind regs) (size : length ram ≡ 32768) where
  abbrev pc : ℕ
  pc = address_of at.page behind

  in_words : pc < 2 ^ 32
  in_words = omega (arith, (in_image_lem image at.page (fit_in_lem image at.page behind caller.fits).0).1, caller.place)

  -- r2 to r7 are the last six
  last_six : take 6 (drop 2 regs) ≡ drop 2 regs
  last_six = take_all 6 (drop 2 regs) (omega (arith, length-drop 2 regs, caller.eight))

  eight_words : length (frame_of pc at.fp regs) ≡ 8
  eight_words = rw last_six (omega (arith, length-drop 2 regs, caller.eight))

  fp_word : (at.fp ≡ 0) ⊎ FrameInRam at.fp → at.fp < 2 ^ 32
  fp_word (inl none) = omega arith
  fp_word (inr frame) = omega (arith, frame.high)

  frame_words : (k : ℕ) → get_or (frame_of pc at.fp regs) k 0 < 2 ^ 32
  frame_words zero = in_words
  frame_words (suc zero) = fp_word (fp_none_or_frame at.fp caller.fp)
  frame_words (suc (suc k)) = rw (last_six, get_or-drop) (caller.words (2 + k))

  call_made : Pushed image window w behind at to regs callee ram after made
  call_made = pushed image window w behind at to regs callee ram after made

  read_back : load_words 8 after (offset_of to.fp) ≡ frame_of pc at.fp regs
  read_back =
      ap (λ m. load_words 8 m (offset_of to.fp)) call_made.written
      ∙ ap (λ n. load_words n (store_words ram (offset_of to.fp) (frame_of pc at.fp regs)) (offset_of to.fp)) (sym eight_words)
      ∙ words_back ram (offset_of to.fp) (frame_of pc at.fp regs) fits frame_words
    where
      fits : offset_of to.fp + 4 * length (frame_of pc at.fp regs) ≤ length ram
      fits = rw eight_words (omega (arith, size, done_small window to.fp call_made.done, (frame_done window to.fp call_made.done).0))

  leaves : (back : Linkage) (later left : List ℕ) → back.fp ≡ to.fp
      → leave image back later (frame_of pc at.fp regs) left
      ≡ moves (record { sp = at.sp; fp = at.fp; page = at.page; place = behind }) (restored later regs) left
  unfolding leave
  leaves back later left same =
      let sp : back.fp + 32 ≡ at.sp = omega (arith, same, call_made.frame, call_made.room) in
      rw (address_fits image at.page behind caller.place caller.fits, caller.fp, sp, page_of_lem at.page behind caller.place, place_of_lem at.page behind caller.place, last_six)

  pub returns : (back : Linkage) (later left : List ℕ) → back.fp ≡ to.fp
      → load_words 8 left (offset_of to.fp) ≡ load_words 8 after (offset_of to.fp)
      → return image window back later left ≡ moves (record { sp = at.sp; fp = at.fp; page = at.page; place = behind }) (restored later regs) left
  returns back later left same untouched =
      return_by image window back later left (λ z. omega (arith, z, same, (frame_done window to.fp call_made.done).0))
      (ap (frame_access window) same ∙ call_made.done) (frame_of pc at.fp regs)
      (ap (λ x. load_words 8 left (offset_of x)) same ∙ untouched ∙ read_back)
      ∙ leaves back later left same
