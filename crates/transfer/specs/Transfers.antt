-- Calls, tail calls and returns between the pages of an image, over SP, FP, page and place, the registers and RAM. Calls are given their
-- word, and one that saves also the place behind it.
use Rattle.std.specs.Prelude.{ℕ, ◌+◌, ◌-◌, ◌*◌, Bool, true, false, ◌||◌, cond, List, ◌≡◌, eqb, ltb, Option, Some, None, Result, Ok, Err}
use Rattle.literal.specs.Literals.{call_address, call_words}
use Rattle.image.specs.Images.{Image}
use Rattle.window.specs.declared.Window.{Window}
use Rattle.memory.specs.declared.Fault.{Fault}
use Rattle.state.specs.FitRecord.{fp_fits}
use Rattle.frame.specs.Frames.{frame_of, saved_pc, saved_fp, restored, store_words, load_words, offset_of, frame_access}
use Rattle.address.specs.Addresses.{address_of, page_of, place_of, in_image, fit_in, fit_address}
use Rattle.transfer.specs.declared.Linkage.{Linkage}
use Rattle.asking.specs.declared.Asked.{Asked}
use Rattle.asking.specs.declared.Asked.TheVariants as asked
use Rattle.transfer.specs.declared.TransferFault.{TransferFault}
use Rattle.transfer.specs.declared.TransferFault.TheVariants.{Memory, UnfitPlace, LowFrame, UnfitFrame}
use Rattle.transfer.specs.declared.Moved.{Moved}

-- where the run then stands, with the registers and RAM; or nothing is moved between pages, and the instruction is what it is on its
-- page alone, which for a call or a return is an exit; or it meets a fault
pub data Transfer : Type 0 where
  moves : Linkage → List ℕ → List ℕ → Transfer
  stays : Transfer
  fails : TransferFault → Transfer

-- a frame that may be read or written
unfoldable pub when_done : Result Unit Fault → Transfer → Transfer
when_done (Ok t) next = next
when_done (Err fault) next = fails (Memory fault)

-- a target whose page isn't in the image leaves the call an exit; one that isn't fit is fault 8. Its place is even, so that it is fit if its
-- bundle lies below its page's byte
unfoldable pub to_target : Image → ℕ → Transfer → Transfer
to_target image address next =
    cond (in_image image (page_of address)) (cond (fit_in image (page_of address) (place_of address)) next (fails UnfitPlace)) stays

-- ---- a call

-- the frame lies directly below SP, and FP is at the saved PC
unfoldable pub push : Window → ℕ → ℕ → ℕ → Linkage → List ℕ → List ℕ → Transfer
push window address n behind at regs ram =
    let frame = at.sp - 32 in
    when_done (frame_access window frame)
    (moves (record { sp = frame - 4 * n; fp = frame; page = page_of address; place = place_of address }) regs
    (store_words ram (offset_of frame) (frame_of (address_of at.page behind) at.fp regs)))

-- n words of the callee's lie below the frame: fault 9 if either is below 0x10000
unfoldable pub enter : Window → ℕ → ℕ → ℕ → Linkage → List ℕ → List ℕ → Transfer
enter window address n behind at regs ram =
    let frame = at.sp - 32 in
    cond (ltb frame 0x10000 || ltb (frame - 4 * n) 0x10000) (fails LowFrame) (push window address n behind at regs ram)

unfoldable pub call : Image → Window → ℕ → ℕ → Linkage → List ℕ → List ℕ → Transfer
call image window w behind at regs ram = to_target image (call_address w) (enter window (call_address w) (call_words w) behind at regs ram)

-- ---- a tail call

-- what lies on the stack above a page's own words: its frame at FP or, where FP is 0, nothing
abbrev pub top_of : ℕ → ℕ
top_of fp = cond (eqb fp 0) 0x18000 fp

-- the caller's frame becomes the callee's: nothing is saved, and SP lies n words below it; fault 9 if that is below 0x10000
unfoldable pub replace : ℕ → ℕ → Linkage → List ℕ → List ℕ → Transfer
replace address n at regs ram =
    let sp = top_of at.fp - 4 * n in
    cond (ltb sp 0x10000) (fails LowFrame)
    (moves (record { sp = sp; fp = at.fp; page = page_of address; place = place_of address }) regs ram)

unfoldable pub tail_call : Image → ℕ → Linkage → List ℕ → List ℕ → Transfer
tail_call image w at regs ram = to_target image (call_address w) (replace (call_address w) (call_words w) at regs ram)

-- ---- a return

-- by the words of the frame: fault 8 for the saved PC, then 10 for the saved FP. SP is left above the frame
unfoldable pub leave : Image → Linkage → List ℕ → List ℕ → List ℕ → Transfer
leave image at regs words ram =
    cond (fit_address image (saved_pc words))
    (cond (fp_fits (saved_fp words))
    (moves (record { sp = at.fp + 32; fp = saved_fp words; page = page_of (saved_pc words); place = place_of (saved_pc words) })
    (restored regs words) ram)
    (fails UnfitFrame))
    (fails UnfitPlace)

-- with FP 0 there is no frame, and the return is an exit
unfoldable pub return : Image → Window → Linkage → List ℕ → List ℕ → Transfer
return image window at regs ram =
    cond (eqb at.fp 0) stays
    (when_done (frame_access window at.fp) (leave image at regs (load_words 8 ram (offset_of at.fp)) ram))

-- ---- each of them

unfoldable pub transfer : Image → Window → Asked → ℕ → Linkage → List ℕ → List ℕ → Transfer
transfer image window asked.NoTransfer behind at regs ram = stays
transfer image window (asked.Call w) behind at regs ram = call image window w behind at regs ram
transfer image window (asked.TailCall w) behind at regs ram = tail_call image w at regs ram
transfer image window asked.Return behind at regs ram = return image window at regs ram

-- ---- the code's tests and answer

-- whether a target lies in the image, or fault 8
abbrev pub target_met : Image → ℕ → Result Bool TransferFault
target_met image address =
    cond (in_image image (page_of address)) (cond (fit_in image (page_of address) (place_of address)) (Ok true) (Err UnfitPlace)) (Ok false)

abbrev pub low_met : ℕ → Result Unit TransferFault
low_met sp = cond (ltb sp 0x10000) (Err LowFrame) (Ok tt)

abbrev pub place_met : Image → ℕ → Result Unit TransferFault
place_met image pc = cond (fit_address image pc) (Ok tt) (Err UnfitPlace)

abbrev pub frame_met : ℕ → Result Unit TransferFault
frame_met fp = cond (fp_fits fp) (Ok tt) (Err UnfitFrame)

-- linkage and registers where they move; what isn't told stays as it was
abbrev pub transferred : Transfer → Result (Option Moved) TransferFault
transferred (moves to after ram) = Ok (Some (record { linkage = to; regs = after }))
transferred stays = Ok None
transferred (fails fault) = Err fault

abbrev pub ram_left : List ℕ → Transfer → List ℕ
ram_left ram (moves to regs after) = after
ram_left ram stays = ram
ram_left ram (fails fault) = ram

abbrev pub Transfers : List ℕ → Transfer → Result (Option Moved) TransferFault → List ℕ → Type 0
Transfers ram t x left = (x ≡ transferred t) × (left ≡ ram_left ram t)

-- whatever RAM is
abbrev pub TransfersAny : (List ℕ → Transfer) → Result (Option Moved) TransferFault → Type 0
TransfersAny t x = (ram : List ℕ) → x ≡ transferred (t ram)
