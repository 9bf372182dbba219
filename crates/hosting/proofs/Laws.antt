-- A run as it crosses.
use Rattle.std.specs.Prelude.{Ok, Err}
use Rattle.std.specs.Prelude as std
use Prim.Native.Nat.{ℕ}
use mathlib.Core.Bool.{false}
use mathlib.Core.List.{List}
use mathlib.Core.Path.{◌≡◌, refl, sym, ap, ◌∙◌}
use Rattle.refusal.specs.Refusals.{Decision, Rule, decision, is_accepted, when_accepted, decision_of}
use Rattle.refusal.specs.declared.Refusal.{Refusal}
use Rattle.refusal.proofs.Theorems.{joined}
use Rattle.state.specs.declared.Record.{Record}
use Rattle.plain.specs.PlainMachine.{Result}
use Rattle.layout.specs.StoredForm.{held_rules, holds_record}
use Rattle.crossing.specs.Numbers.{refused_with}
use Rattle.hosting.specs.Crossed.{crossed_by, host_call}
use Rattle.hosting.specs.declared.Hosted.{Hosted}

module _ (bytes : List ℕ) (v : std.Result Unit Refusal) (e : decision_of v ≡ decision (held_rules bytes)) (run : Record → Result) (ram : List ℕ) (h : Hosted) where
  holds_none : (why : Refusal) → v ≡ Err why → holds_record bytes ≡ false
  holds_none why told = ap is_accepted (sym e ∙ ap decision_of told)

  -- handed no record, a run is refused by what stands before it, or for that
  pub none_crosses : (areas : List Rule) (d : Decision) (why : Refusal) → v ≡ Err why → d ≡ decision areas
      → h ≡ record { stop = refused_with (when_accepted d (decision_of v) d); steps = 0 }
      → crossed_by h bytes ram ≡ host_call areas run bytes ram
  none_crosses areas d why told by-areas n =
      let first = joined areas (held_rules bytes) (when_accepted d (decision_of v) d) d (decision_of v) refl by-areas e in
      rw (n, holds_none why told, first)
