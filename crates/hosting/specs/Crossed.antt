-- A run as the host sees it, whatever it runs: a record crosses as its bytes.
use Rattle.std.specs.Prelude.{ℕ, cond, List, ◌++◌}
use Rattle.refusal.specs.Refusals.{Rule, decision}
use Rattle.state.specs.declared.Record.{Record}
use Rattle.plain.specs.PlainMachine.{Result}
use Rattle.layout.specs.StoredForm.{record_bytes, record_in, held_rules, holds_record}
use Rattle.crossing.specs.Numbers.{refused_with, stop_numbers}
use Rattle.crossing.specs.declared.StopNumbers.{StopNumbers}
use Rattle.hosting.specs.declared.Hosted.{Hosted}

-- what comes back
pub record Crossed : Type 0 where
  pub stop : StopNumbers
  pub steps : ℕ
  pub bytes : List ℕ
  pub ram : List ℕ

-- from the code's answer and what is lent at exit
abbrev pub crossed_by : Hosted → List ℕ → List ℕ → Crossed
crossed_by h bytes ram = record { stop = h.stop; steps = h.steps; bytes = bytes; ram = ram }

-- from the numbers and bytes that it comes in
abbrev pub answered : ℕ → ℕ → ℕ → ℕ → ℕ → ℕ → List ℕ → List ℕ → Crossed
answered code kind value literal position steps bytes ram = record {
  stop = record { code = code; kind = kind; value = value; literal = literal; position = position };
  steps = steps;
  bytes = bytes;
  ram = ram;
}

-- a record as its bytes
abbrev pub crossing : Result → Crossed
crossing r = record { stop = stop_numbers r.stop; steps = r.steps; bytes = record_bytes r.rec; ram = r.ram }

-- the library's own 255, for bytes that hold no record, stands behind the refusals that don't look at the record, and directly before
-- those that do
abbrev pub no_record_rules : List Rule → List ℕ → List Rule
no_record_rules areas bytes = areas ++ held_rules bytes

-- the run of the record that the bytes hold; where they hold none, nothing changes, and it is told why
abbrev pub host_call : List Rule → (Record → Result) → List ℕ → List ℕ → Crossed
host_call areas run bytes ram =
    cond (holds_record bytes) (crossing (run (record_in bytes)))
    (record { stop = refused_with (decision (no_record_rules areas bytes)); steps = 0; bytes = bytes; ram = ram })
