-- A host's calls of steps and runs, over any kind of machine.
use Rattle.std.specs.Prelude.{ℕ, ◌<◌, List, [], ◌∷◌, get_or}
use Rattle.refusal.specs.Refusals.{Rule}
use Rattle.stop.specs.Stops.{direct, by_literal, Reason, budget, service, fault, unlisted, refused}
use Rattle.plain.specs.PlainMachine.{Result}
use Rattle.layout.specs.StoredForm.{record_in}
use Rattle.series.specs.Machine.{Kind}
use Rattle.hosting.specs.Crossed.{Crossed}

-- what a call is lent, and its budget; a record crosses as its bytes
pub record Lent (Setting : Type 0) : Type 0 where
  pub setting : Setting
  pub budget : ℕ
  pub bytes : List ℕ
  pub ram : List ℕ

-- the type of a slice of bytes says that they are below 256
abbrev pub Bytes : List ℕ → Type 0
Bytes xs = (k : ℕ) → get_or xs k 0 < 256

-- a host's calls, over a kind of machine: what each was lent, and what came back
pub record Host : Type 1 where
  pub kind : Kind
  -- what is refused before the record is looked at
  pub areas : kind.Setting → List ℕ → List Rule
  pub Call : Type 0
  pub lent : Call → Lent kind.Setting
  pub crossed : Call → Crossed

-- ---- what comes back, read

-- the stop by its kind, with what the kind carries
abbrev pub stop_in : ℕ → ℕ → ℕ → Reason
stop_in kind value literal =
    get_or (budget ∷ service (direct value) ∷ service (by_literal value literal) ∷ fault value ∷ unlisted ∷ []) kind (refused value [])

abbrev pub result_in : Crossed → Result
result_in x = record {
  stop = stop_in x.stop.kind x.stop.value x.stop.literal;
  steps = x.steps;
  rec = record_in x.bytes;
  ram = x.ram;
}
