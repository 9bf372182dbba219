-- What the two programs write: the other form, or the line of a refusal.
use Rattle.std.specs.Prelude.{ℕ, List}
use Rattle.refusal.specs.Refusals.{Decision, accepted, refused, decision}
use Rattle.layout.specs.StoredForm.{record_bytes, record_in}
use Rattle.form.specs.Storing.{load_rules}
use Rattle.refusal_line.specs.RefusalLine.{refused_text}
use Rattle.short_layout.specs.ShortForm.{short_form}
use Rattle.short_form.specs.ShortStoring.{read_rules, record_short}

abbrev pub output_by : Decision → List ℕ → List ℕ
output_by accepted form = form
output_by (refused n values) form = refused_text n values

abbrev pub packed : List ℕ → List ℕ
packed stored = output_by (decision (load_rules stored)) (short_form (record_in stored))

abbrev pub unpacked : List ℕ → List ℕ
unpacked bytes = output_by (decision (read_rules bytes)) (record_bytes (record_short bytes))
