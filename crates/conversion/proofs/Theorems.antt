-- What one program writes for a form that is accepted, the other turns back to the same bytes.
use Prim.Native.Nat.{ℕ, ◌<◌}
use mathlib.Core.List.{List, []}
use mathlib.Core.Path.{◌≡◌, ap, ◌∙◌}
use lib.ListN.{length, get_or}
use Rattle.refusal.specs.Refusals.{Decision, accepted, decision}
use Rattle.refusal_line.specs.RefusalLine.{refused_text}
use Rattle.layout.specs.StoredForm.{record_bytes, record_in}
use Rattle.form.specs.Storing.{load_rules}
use Rattle.short_layout.specs.ShortForm.{short_form}
use Rattle.short_form.specs.ShortStoring.{read_rules, record_short}
use Rattle.short_form.proofs.Theorems.{same_form, too_long}
use Rattle.packing.proofs.Theorems.{short_reads, stored_back, stored_reads}
use Rattle.conversion.specs.Conversion.{output_by, packed, unpacked}

pub packed_back : (stored : List ℕ) → ((k : ℕ) → get_or stored k 0 < 256) → decision (load_rules stored) ≡ accepted → unpacked (packed stored) ≡ stored
packed_back stored h t =
    let r = short_reads stored h t in
    let form = short_form (record_in stored) in
    ap (λ (d : Decision). unpacked (output_by d form)) t
    ∙ ap (λ (d : Decision). output_by d (record_bytes (record_short form))) r.0
    ∙ ap record_bytes r.1
    ∙ stored_back stored h t

pub unpacked_back : (bytes : List ℕ) → ((k : ℕ) → get_or bytes k 0 < 256) → decision (read_rules bytes) ≡ accepted → packed (unpacked bytes) ≡ bytes
unpacked_back bytes h t =
    let r = stored_reads bytes h t in
    let form = record_bytes (record_short bytes) in
    ap (λ (d : Decision). packed (output_by d form)) t
    ∙ ap (λ (d : Decision). output_by d (short_form (record_in form))) r.0
    ∙ ap short_form r.1
    ∙ same_form bytes h t

-- so `unpack` may stop reading behind 66 bytes
pub long_refused : (bytes : List ℕ) → ((k : ℕ) → get_or bytes k 0 < 256) → 65 < length bytes → unpacked bytes ≡ refused_text 9 []
long_refused bytes h l = rw (too_long bytes h l)
