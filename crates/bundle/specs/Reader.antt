-- The bundle reader: bad, none or the largest successor.
use Rattle.std.specs.Prelude.{ℕ, List, [], ◌∷◌, ◌++◌, leb, Result}
use Rattle.std.specs.Result.{result_unwrap_or}
use Rattle.refusal.specs.Refusals.{Decision, Rule, rule, decision, when_accepted, decision_of}
use Rattle.prefix.specs.LargestSuccessor.{Reading, bad_bundle, largest_successor, reading_of}
use Rattle.page.specs.Page.{bundles_in}
use Rattle.platform.specs.Programs.{Program, program_rules}
use Rattle.bundle.specs.Successors.{successors_of}
use Rattle.refusal.specs.declared.Refusal.{Refusal}
use Rattle.prefix.specs.declared.LargestSuccessor.{LargestSuccessor}
use Rattle.prefix.specs.declared.LargestSuccessor.TheVariants.{Bad}

-- refusal 8
abbrev pub bundle_rule : List ℕ → ℕ → Rule
bundle_rule page k = rule (leb (bundles_in page) k) 8 []

-- 18, 1, then 8
abbrev pub read_rules : Program → ℕ → List Rule
read_rules program k = program_rules program ++ (bundle_rule program.page k ∷ [])

-- what the reader gives
pub record ReaderAnswer : Type 0 where
  pub decision : Decision
  pub reading : Reading

-- refused, a bad bundle
abbrev pub read_bundle : Program → ℕ → ReaderAnswer
read_bundle program k = record {
  decision = decision (read_rules program k);
  reading = when_accepted (decision (read_rules program k)) (largest_successor (successors_of program k)) bad_bundle;
}

-- the code's answer, by the build paper's numbers and values
abbrev pub seen_read : Result LargestSuccessor Refusal → ReaderAnswer
seen_read a = record { decision = decision_of a; reading = reading_of (result_unwrap_or a Bad) }
