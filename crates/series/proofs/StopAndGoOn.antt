-- Stop and go on, over any machine whose instructions leave what isn't refused.
use Prim.Native.Nat.{ℕ, ◌+◌, ◌-◌, ◌≤◌}
use native.Mathlib.Omega.{arith}
use mathlib.Core.List.{List, [], ◌∷◌}
use mathlib.Core.Path.{◌≡◌, refl, sym, ap, ◌∙◌}
use Rattle.refusal.specs.Refusals.{Decision, accepted, refused}
use Rattle.state.specs.declared.Record.{Record}
use Rattle.stop.specs.Stops.{budget}
use Rattle.plain.specs.PlainMachine.{Effect, Result, later, plain}
use Rattle.plain.specs.Calls.{call_by}
use Rattle.plain.proofs.GoingOn as plain_runs
use Rattle.series.specs.Machine.{Machine, Accepts, Admits, called, run}
use Rattle.series.specs.Series.{State, gave_state, From}
use Rattle.series.specs.StopAndGoOn.{Spent, Slices, budgets, together, NoneRefused, StopAndGoOn}
use Rattle.series.proofs.Keeps.{KeepsAdmitted, admits_after}
use Rattle.series.proofs.Theorems.{own_handed, handed_own, gave_from}

-- a call that stopped because its budget was spent was not refused
spent_accepted : (d : Decision) (instruction : Record → List ℕ → Effect) (total : ℕ) (r : Record) (ram : List ℕ)
    → (call_by d instruction total r ram).stop ≡ budget → d ≡ accepted
spent_accepted accepted instruction total r ram e = refl
spent_accepted (refused n values) instruction total r ram e = cc

-- of one that stopped otherwise, refused or not, a larger budget changes nothing
call_ended : (d : Decision) (instruction : Record → List ℕ → Effect) (total more : ℕ) (r : Record) (ram : List ℕ)
    → ((call_by d instruction total r ram).stop ≡ budget → ⊥) → total ≤ more
    → call_by d instruction more r ram ≡ call_by d instruction total r ram
call_ended accepted instruction total more r ram other l =
    let whole : more ≡ total + (more - total) = omega arith in
    ap (λ n. plain instruction n 0 r ram) whole ∙ plain_runs.ended instruction total (more - total) r ram other
call_ended (refused n values) instruction total more r ram other l = refl

module _ (m : Machine) (k : KeepsAdmitted m) where
  -- what a call gives from here with a budget
  abbrev given_from : State → ℕ → Result
  given_from s total = called m (own_handed m total s.rec s.ram)

  -- ---- a call that stopped because its budget was spent

  was_admitted : (s : State) (c : m.Call) → From m s c → Spent m c → Admits m s.rec s.ram
  was_admitted s c h spent =
      spent_accepted (m.kind.decision m.setting s.rec s.ram) (m.kind.instruction m.setting) (m.handed c).budget s.rec s.ram
      (ap (λ (x : Result). x.stop) (sym (gave_from m k s c h)) ∙ spent)

  ran : (s : State) (c : m.Call) → From m s c → Spent m c → m.gave c ≡ run m (m.handed c).budget s.rec s.ram
  ran s c h spent = gave_from m k s c h ∙ rw (was_admitted s c h spent)

  next_admitted : (s : State) (c : m.Call) → From m s c → Spent m c → Admits m (m.gave c).rec (m.gave c).ram
  next_admitted s c h spent =
      rw (ran s c h spent) (admits_after m k (m.handed c).budget s.rec s.ram (was_admitted s c h spent))

  next_accepted : (s : State) (c next : m.Call) → From m s c → Spent m c → From m (gave_state m c) next → Accepts m (m.handed next)
  next_accepted s c next h spent g = rw (handed_own m (gave_state m c) next g) (next_admitted s c h spent)

  goes_farther : (s : State) (c : m.Call) → From m s c → Spent m c
      → (more : ℕ) → later (m.gave c).steps (given_from (gave_state m c) more) ≡ given_from s ((m.handed c).budget + more)
  goes_farther s c h spent more =
      rw (next_admitted s c h spent, was_admitted s c h spent)
      (sym (plain_runs.goes_on_lem (m.kind.instruction m.setting) (m.handed c).budget more s.rec s.ram (m.gave c) (sym (ran s c h spent)) spent))

  -- ---- slices

  first_from : (s : State) (c : m.Call) (cs : List m.Call) → Slices m s c cs → From m s c
  first_from s c [] h = h
  first_from s c (next ∷ cs) h = h.0

  none_refused : (s : State) (c : m.Call) (cs : List m.Call) → Slices m s c cs → NoneRefused m cs
  none_refused s c [] h = tt
  none_refused s c (next ∷ cs) h =
      (next_accepted s c next h.0 h.1 (first_from (gave_state m c) next cs h.2), none_refused (gave_state m c) next cs h.2)

  -- they are one call with the sum of their budgets
  as_one : (s : State) (c : m.Call) (cs : List m.Call) → Slices m s c cs → together m c cs ≡ given_from s (budgets m c cs)
  as_one s c [] h = gave_from m k s c h
  as_one s c (next ∷ cs) h =
      ap (later (m.gave c).steps) (as_one (gave_state m c) next cs h.2) ∙ goes_farther s c h.0 h.1 (budgets m next cs)

  with_sum : (s : State) (c : m.Call) (cs : List m.Call) (whole : m.Call) → Slices m s c cs
      → From m s whole → (m.handed whole).budget ≡ budgets m c cs → m.gave whole ≡ together m c cs
  with_sum s c cs whole h w e = gave_from m k s whole w ∙ ap (given_from s) e ∙ sym (as_one s c cs h)

  with_more : (s : State) (c : m.Call) (cs : List m.Call) (longer : m.Call) → Slices m s c cs → ((together m c cs).stop ≡ budget → ⊥)
      → From m s longer → budgets m c cs ≤ (m.handed longer).budget → m.gave longer ≡ together m c cs
  with_more s c cs longer h other w l =
      let one = as_one s c cs h in
      gave_from m k s longer w
      ∙ call_ended (m.kind.decision m.setting s.rec s.ram) (m.kind.instruction m.setting) (budgets m c cs) (m.handed longer).budget
      s.rec s.ram (λ spent. other (ap (λ (x : Result). x.stop) one ∙ spent)) l
      ∙ sym one

  pub stop_and_go_on : StopAndGoOn m
  stop_and_go_on = record {
    goes_on = λ s first second whole f spent g. with_sum s first (second ∷ []) whole (f, spent, g);
    not_refused = next_accepted;
    larger = λ s first longer f other. with_more s first [] longer f other;
    slices = with_sum;
    none_refused = none_refused;
    slices_larger = with_more;
  }
