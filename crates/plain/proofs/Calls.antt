-- A call, by what the code says of it.
use Prim.Native.Nat.{ℕ}
use Rattle.std.specs.Prelude.{Ok, Err}
use Rattle.std.specs.Prelude as std
use mathlib.Core.List.{List}
use mathlib.Core.Path.{◌≡◌, sym, ap, ◌∙◌}
use Rattle.refusal.specs.Refusals.{Decision, accepted, refused, refusal_number, refusal_values, decision_of}
use Rattle.refusal.specs.declared.Refusal.{Refusal}
use Rattle.state.specs.declared.Record.{Record}
use Rattle.stop.specs.Stops as stops
use Rattle.plain.specs.PlainMachine.{Effect, Result, plain}
use Rattle.plain.specs.Calls.{call_by}

module _ (instruction : Record → List ℕ → Effect) (total : ℕ) (r : Record) (ram : List ℕ) (v : std.Result Unit Refusal) (d : Decision) (e : decision_of v ≡ d) where
  decided : (x : Decision) → decision_of v ≡ x → call_by x instruction total r ram ≡ call_by d instruction total r ram
  decided x h = ap (λ (y : Decision). call_by y instruction total r ram) (sym h ∙ e)

  pub refused_call : (why : Refusal) → v ≡ Err why
      → record { stop = stops.refused (refusal_number why) (refusal_values why); steps = 0; rec = r; ram = ram } ≡ call_by d instruction total r ram
  refused_call why h = decided (refused (refusal_number why) (refusal_values why)) (ap decision_of h)

  pub accepted_call : (x : Result) → v ≡ Ok tt → x ≡ plain instruction total 0 r ram → x ≡ call_by d instruction total r ram
  accepted_call x h ran = ran ∙ decided accepted (ap decision_of h)
