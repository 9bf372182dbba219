-- Base validation.
use Rattle.std.specs.Prelude.{ℕ, ◌+◌, ◌-◌, ◌%◌, ◌^◌, Bool, not, ◌&&◌, cond, List, [], ◌∷◌, eqb, ltb, leb, Result}
use Rattle.std.specs.Result.{result_unwrap_or}
use Rattle.refusal.specs.Refusals.{Decision, Rule, rule, decision, when_accepted, decision_of}
use Rattle.refusal.specs.declared.Refusal.{Refusal}
use Rattle.state.specs.Record.{kind_of, offset_of}
use Rattle.state.specs.declared.Base.{Base}
use Rattle.state.specs.declared.Base.TheVariants.{Nothing, Ram, External}

-- the build paper's external data: 0 to 16,777,216 bytes, a multiple of 256
unfoldable pub external_fits : ℕ → Bool
external_fits external = leb external 16777216 && eqb (external % 256) 0

-- refusal 3
abbrev pub external_rule : ℕ → Rule
external_rule external = rule (not (external_fits external)) 3 []

-- below 0x80000000 the RAM offset (v - 0x10000) mod 2 ^ 20, to which 2 ^ 20 is added first since v may be less than 0x10000;
-- else the external offset v - 0x80000000, or none if that is not below the data's length
unfoldable pub validated : ℕ → ℕ → Base
validated v external =
    cond (ltb v 0x80000000) (Ram ((v + 2 ^ 20 - 0x10000) % 2 ^ 20))
    (cond (ltb (v - 0x80000000) external) (External (v - 0x80000000)) Nothing)

abbrev pub validate_rules : ℕ → List Rule
validate_rules external = external_rule external ∷ []

-- what validation gives: the base by its kind and offset
pub record ValidationAnswer : Type 0 where
  pub decision : Decision
  pub kind : ℕ
  pub offset : ℕ

-- refused, none
abbrev pub validate_base : ℕ → ℕ → ValidationAnswer
validate_base v external = record {
  decision = decision (validate_rules external);
  kind = when_accepted (decision (validate_rules external)) (kind_of (validated v external)) 0;
  offset = when_accepted (decision (validate_rules external)) (offset_of (validated v external)) 0;
}

-- the code's answer, by the build paper's numbers and values
abbrev pub seen_validated : Result Base Refusal → ValidationAnswer
seen_validated a = record { decision = decision_of a; kind = kind_of (result_unwrap_or a Nothing); offset = offset_of (result_unwrap_or a Nothing) }
