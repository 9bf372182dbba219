-- Demand 3, over any machine whose instructions leave what isn't refused.
use Prim.Native.Nat.{ℕ, zero, suc, ◌-◌}
use native.Mathlib.Omega.{arith}
use mathlib.Core.Bool.{Bool, true, false, cond}
use mathlib.Core.List.{List, [], ◌∷◌, map}
use mathlib.Core.Path.{◌≡◌, refl, sym, ap, subst, ◌∙◌}
use Rattle.state.specs.declared.Record.{Record}
use Rattle.stop.specs.Stops.{Reason, budget, service, fault, refused}
use Rattle.stop.specs.Stops as stops
use Rattle.plain.specs.PlainMachine.{Effect, goes_on, exits, faults, unlisted, Result, later, plain}
use Rattle.plain.proofs.Runs.{run_goes_on, smaller_budget_spent}
use Rattle.series.specs.HandedOn.{InSeries, own, other, call_in, HandedIn, left_by}
use Rattle.series.specs.Machine.{Handed, Machine, Refuses, Admits, refused_by, called, run}
use Rattle.series.specs.Series.{State, state_of, handed_state, gave_state, OwnSetting, From, Series, fed, plain_result, plain_after, plain_results, plain_state}
use Rattle.series.specs.Demand3.{StopsBy, OwnCall, SoundCall, Demand3}
use Rattle.series.proofs.Keeps.{Keeps, KeepsAdmitted, admits_after}

-- what stands stays where it isn't handed to a call, or the call gives it back
pub stays : {A : Type 0} (handed : Bool) (before gave : A) → (handed ≡ true → gave ≡ before) → cond handed gave before ≡ before
stays true before gave e = e refl
stays false before gave e = refl

module _ (m : Machine) where
  -- what an own call is handed where these stand
  abbrev pub own_handed : ℕ → Record → List ℕ → Handed m.kind.Setting
  own_handed total r ram = record { setting = m.setting; budget = total; rec = r; ram = ram }

  pub handed_own : (s : State) (c : m.Call) → From m s c
      → m.handed c ≡ own_handed (m.handed c).budget s.rec s.ram
  handed_own s c h i = record { setting = h.0 i; budget = (m.handed c).budget; rec = (h.1 i).rec; ram = (h.1 i).ram }

module _ (m : Machine) (k : KeepsAdmitted m) where
  -- ---- one run that isn't refused

  abbrev StopsWell : ℕ → Record → List ℕ → Reason → Type 0
  StopsWell total r ram = StopsBy m (own_handed m total r ram) (run m total r ram)

  -- where the first instruction goes on, a run stops as the rest of it does
  stops_later : (left : ℕ) (r s : Record) (ram after : List ℕ) → m.kind.instruction m.setting r ram ≡ goes_on s after
      → (why : Reason) → StopsWell left s after why → StopsWell (suc left) r ram why
  stops_later left r s ram after e = go (λ n. run_goes_on (m.kind.instruction m.setting) n r s ram after e)
    where
      go : ((n : ℕ) → run m (suc n) r ram ≡ later 1 (run m n s after))
          → (why : Reason) → StopsWell left s after why → StopsWell (suc left) r ram why
      go on budget h = omega (arith, h, ap (λ (x : Result). x.steps) (on left))
      go on (service exit) h =
          let one = ap (λ (x : Result). x.steps) (on left) in
          let last : (run m (suc left) r ram).steps - 1 ≡ suc ((run m left s after).steps - 1) = omega (arith, one, h.0) in
          (omega (arith, one), rw (last, on ((run m left s after).steps - 1)) h.1)
      go on (fault n) h = rw (on left) h
      go on stops.unlisted h = h
      go on (refused n values) h = h

  stops_well : (left : ℕ) (r : Record) (ram : List ℕ) → Admits m r ram → StopsWell left r ram (run m left r ram).stop
  unfolding plain
  stops_well zero r ram a = refl
  stops_well (suc left) r ram a = go (stops_well left) (m.kind.instruction m.setting r ram) refl (k.keeps r ram a)
    where
      go : ((s : Record) (after : List ℕ) → Admits m s after → StopsWell left s after (run m left s after).stop)
          → (e : Effect) → m.kind.instruction m.setting r ram ≡ e → Keeps (Admits m) (m.kind.ServiceAt m.setting r) m.kind.Known e
          → StopsWell (suc left) r ram (run m (suc left) r ram).stop
      go rest (goes_on s after) e h =
          let same = ap (λ (x : Result). x.stop) (run_goes_on (m.kind.instruction m.setting) left r s ram after e) in
          subst (StopsWell (suc left) r ram) (sym same)
          (stops_later left r s ram after e (run m left s after).stop (rest s after h))
      go rest (exits exit s after) e h = rw e (omega arith, h.1)
      go rest (faults g) e h = rw e (record { met = g; meets = e; number = refl; known = h })
      go rest unlisted e h = absurd h

  own_sound : (total : ℕ) (r : Record) (ram : List ℕ) → Admits m r ram → OwnCall m (own_handed m total r ram) (run m total r ram)
  own_sound total r ram a = record {
    accepted = a;
    stops = stops_well total r ram a;
    trace = λ i l. (smaller_budget_spent (m.kind.instruction m.setting) total i r ram l, k.starts _ _ (admits_after m k i r ram a));
  }

  -- ---- the series

  -- what a call gives from here
  pub gave_from : (s : State) (c : m.Call) → From m s c → m.gave c ≡ called m (own_handed m (m.handed c).budget s.rec s.ram)
  gave_from s c h = k.meets c ∙ ap (called m) (handed_own m s c h)

  -- another call gives back what it was handed, so what stands stays
  pub refused_back : (c : m.Call) (why : Refuses m (m.handed c)) → m.gave c ≡ refused_by m why.0 why.1 (m.handed c)
  refused_back c why = k.meets c ∙ rw why.2

  pub other_stays : (series_record series_ram : Bool) (c : m.Call) (s : State)
      → HandedIn (gave_state m) (handed_state m) (OwnSetting m) (λ c. Refuses m (m.handed c)) (other series_record series_ram c) s
      → left_by (gave_state m) (other series_record series_ram c) s ≡ s
  other_stays series_record series_ram c s h =
      let back = refused_back c h.0 in
      let rec = stays series_record s.rec (m.gave c).rec (λ t. rw back (h.1 t)) in
      let ram = stays series_ram s.ram (m.gave c).ram (λ t. rw back (h.2 t)) in
      λ i. record { rec = rec i; ram = ram i }

  -- a call is as claimed; after it the next isn't refused; the state is the plain machine's; and it gave what the plain machine gives
  record Goes (c : InSeries m.Call) (s : State) : Type 0 where
    sound : SoundCall m c
    admits : Admits m (left_by (gave_state m) c s).rec (left_by (gave_state m) c s).ram
    gives : m.gave (call_in c) ≡ plain_result m (fed m c) s
    leaves : left_by (gave_state m) c s ≡ plain_after m (fed m c) s

  goes : (c : InSeries m.Call) (s : State) → Admits m s.rec s.ram → HandedIn (gave_state m) (handed_state m) (OwnSetting m) (λ c. Refuses m (m.handed c)) c s → Goes c s
  goes (own c) s a h =
      let gave : m.gave c ≡ run m (m.handed c).budget s.rec s.ram =
      gave_from s c h ∙ rw a in
      record {
        sound = subst (OwnCall m (m.handed c)) (sym gave) (own-there (handed_own m s c h));
        admits = rw gave (admits_after m k (m.handed c).budget s.rec s.ram a);
        gives = gave;
        leaves = ap state_of gave;
      }
    where
      own-there : {h : Handed m.kind.Setting} → h ≡ own_handed m h.budget s.rec s.ram → OwnCall m h (run m h.budget s.rec s.ram)
      own-there {h} e = subst (λ (g : Handed m.kind.Setting). OwnCall m g (run m h.budget s.rec s.ram)) (sym e) (own_sound h.budget s.rec s.ram a)
  goes (other series_record series_ram c) s a h =
      let still = other_stays series_record series_ram c s h in
      record {
        sound = record { refuses = h.0; gives = refused_back c h.0 };
        admits = subst (λ (t : State). Admits m t.rec t.ram) (sym still) a;
        gives = k.meets c;
        leaves = still;
      }

  pub demand3 : (cs : List (InSeries m.Call)) (s : State) → Admits m s.rec s.ram → Series m cs s → Demand3 m cs s
  unfolding plain_results plain_state
  demand3 [] s a h = record { sound = k.starts s.rec s.ram a; gives = refl; leaves = refl }
  demand3 (c ∷ cs) s a h =
      let first = goes c s a h.0 in
      let rest = demand3 cs (left_by (gave_state m) c s) first.admits h.1 in
      record {
        sound = (k.starts s.rec s.ram a, first.sound, rest.sound);
        gives = rw (← first.leaves, ← first.gives, rest.gives);
        leaves = rest.leaves ∙ ap (plain_state m (map (fed m) cs)) first.leaves;
      }
