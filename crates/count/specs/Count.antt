-- The count: the greatest closed prefix of the page's bundles.
use Rattle.std.specs.Prelude.{ℕ, Result}
use Rattle.std.specs.Result.{result_unwrap_or}
use Rattle.refusal.specs.declared.Refusal.{Refusal}
use Rattle.refusal.specs.Refusals.{Decision, decision, when_accepted, decision_of}
use Rattle.page.specs.Page.{bundles_in}
use Rattle.platform.specs.Programs.{Program, program_rules}
use Rattle.prefix.specs.Prefix.{greatest_closed}
use Rattle.bundle.specs.Successors.{successors_of}

-- the build paper's count
abbrev pub count_of : Program → ℕ
count_of program = greatest_closed (successors_of program) (bundles_in program.page)

-- what the count gives
pub record CountAnswer : Type 0 where
  pub decision : Decision
  pub count : ℕ

-- refusals 18, then 1; refused, 0
abbrev pub count_program : Program → CountAnswer
count_program program = record {
  decision = decision (program_rules program);
  count = when_accepted (decision (program_rules program)) (count_of program) 0;
}

-- the code's answer, by the build paper's numbers and values
abbrev pub seen_count : Result ℕ Refusal → CountAnswer
seen_count a = record { decision = decision_of a; count = result_unwrap_or a 0 }
