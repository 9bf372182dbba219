-- Calls keep to their window, over any kind of machine whose instructions do.
use Prim.Native.Nat.{ℕ}
use native.Mathlib.Omega.{arith}
use mathlib.Core.List.{List, [], ◌∷◌, map}
use mathlib.Core.Path.{◌≡◌, refl, sym, ap, subst, ◌∙◌}
use lib.ListN.{length, get_or, drop}
use Rattle.window.specs.Windows.{EqualInside, EqualOutside}
use Rattle.window.specs.declared.Window.{Window}
use Rattle.window.proofs.Rams.{equal_same, equal_back, equal_on}
use Rattle.refusal.specs.Refusals.{Decision, accepted, refused}
use Rattle.state.specs.declared.Record.{Record}
use Rattle.plain.specs.PlainMachine.{Effect, goes_on, exits, faults, unlisted, Result, plain}
use Rattle.plain.specs.Calls.{call_by}
use Rattle.plain.specs.EqualBut.{EqualBut}
use Rattle.plain.proofs.Runs.{Leaves, run_keeps}
use Rattle.plain.proofs.Alike.{EffectsAlike, RunsAlike, equal, outside, runs_alike}
use Rattle.series.specs.HandedOn.{Standing, InSeries, own, other, left_by, left_by_all, HandedOn}
use Rattle.series.specs.Machine.{Handed, Kind, called_by, Machine, machine_of, Refuses}
use Rattle.series.specs.Series.{State, handed_state, gave_state, OwnSetting, Series}
use Rattle.series.specs.Windows.{ram_alone, window_on, EqualAll, own_window, EqualStates, InTurn, left_in_turn, budgets_of, own_calls, KeepsToWindow}
use Rattle.series.proofs.Keeps.{KeepsAdmitted}
use Rattle.series.proofs.Theorems.{stays, refused_back, other_stays}

-- ---- what is asked of a kind of machine

pub record WithinWindow (kind : Kind) : Type 0 where
  -- in RAMs that are equal inside the window an instruction has the same effect
  pub reads_inside : (setting : kind.Setting) (r : Record) (a b : List ℕ) → EqualInside (kind.window setting) a b
      → EffectsAlike (kind.window setting) (kind.window setting) (EqualInside (kind.window setting))
      (kind.instruction setting r a) (kind.instruction setting r b)
  -- and it leaves the bytes outside
  pub writes_inside : (setting : kind.Setting) (r : Record) (ram : List ℕ)
      → Leaves (λ s after. EqualOutside (kind.window setting) ram after) (kind.instruction setting r ram)
  -- refusals don't look at RAM's bytes
  pub refuses_by_length : (setting : kind.Setting) (r : Record) (a b : List ℕ) → length a ≡ length b
      → kind.decision setting r a ≡ kind.decision setting r b

-- ---- RAM in a row of calls

module _ {Form Call : Type 0} (gave handed : Call → Standing Form) (OwnSetting Refused : Call → Type 0) (w : Window)
    (own-keeps : (c : Call) → OwnSetting c → EqualOutside w (handed c).ram (gave c).ram)
    (other-keeps : (c : Call) → Refused c → (gave c).ram ≡ (handed c).ram) where
  pub rams_stay : (cs : List (InSeries Call)) (s : Standing Form) → HandedOn gave handed OwnSetting Refused cs s
      → EqualOutside w s.ram (left_by_all gave cs s).ram
  rams_stay [] s h = equal_same _ s.ram
  rams_stay (own c ∷ cs) s h =
      equal_on _ s.ram (gave c).ram (left_by_all gave cs (gave c)).ram
      (subst (λ (x : Standing Form). EqualOutside w x.ram (gave c).ram) h.0.1 (own-keeps c h.0.0))
      (rams_stay cs (gave c) h.1)
  rams_stay (other series_record series_ram c ∷ cs) s h =
      let still = stays series_ram s.ram (gave c).ram (λ t. other-keeps c h.0.0 ∙ h.0.2 t) in
      subst (λ ram. EqualOutside w ram (left_by_all gave cs (left_by gave (other series_record series_ram c) s)).ram) still
      (rams_stay cs (left_by gave (other series_record series_ram c) s) h.1)

module _ (kind : Kind) (inside : WithinWindow kind) where
  -- ---- one call leaves the bytes outside its window

  leaves_outside : (w : Window) (first ram : List ℕ) (e : Effect) → EqualOutside w first ram
      → Leaves (λ s after. EqualOutside w ram after) e → Leaves (λ s after. EqualOutside w first after) e
  leaves_outside w first ram (goes_on r after) o l = equal_on _ first ram after o l
  leaves_outside w first ram (exits x r after) o l = equal_on _ first ram after o l
  leaves_outside w first ram (faults f) o l = tt
  leaves_outside w first ram unlisted o l = tt

  pub called_outside : (h : Handed kind.Setting) → EqualOutside (kind.window h.setting) h.ram (called_by kind h).ram
  called_outside h = go (kind.decision h.setting h.rec h.ram)
    where
      w : Window
      w = kind.window h.setting

      go : (d : Decision) → EqualOutside w h.ram (call_by d (kind.instruction h.setting) h.budget h.rec h.ram).ram
      go accepted =
          run_keeps (kind.instruction h.setting) (λ s after. EqualOutside w h.ram after)
          (λ s after o. leaves_outside w h.ram after (kind.instruction h.setting s after) o (inside.writes_inside h.setting s after))
          h.budget 0 h.rec h.ram (equal_same _ h.ram)
      go (refused n values) = equal_same _ h.ram

  -- ---- two calls

  pub called_equal : (setting : kind.Setting) (total : ℕ) (r : Record) (a b : List ℕ) → EqualInside (kind.window setting) a b
      → EqualBut (EqualInside (kind.window setting)) (called_by kind (record { setting = setting; budget = total; rec = r; ram = a }))
      (called_by kind (record { setting = setting; budget = total; rec = r; ram = b }))
  called_equal setting total r a b e = rw (inside.refuses_by_length setting r a b e.0) (go (kind.decision setting r b))
    where
      w : Window
      w = kind.window setting

      run : List ℕ → Result
      run ram = plain (kind.instruction setting) total 0 r ram

      ran : RunsAlike w w (EqualInside w) (run a) (run b) → EqualBut (EqualInside w) (run a) (run b)
      ran (equal not-seven x) = x
      ran (outside at bytes i j seven x) = x j

      go : (d : Decision) → EqualBut (EqualInside w) (call_by d (kind.instruction setting) total r a) (call_by d (kind.instruction setting) total r b)
      go accepted =
          ran (runs_alike w w (EqualInside w) (kind.instruction setting) (kind.instruction setting) (inside.reads_inside setting) total 0 r a b e)
      go (refused n values) = record { stop = refl; steps = refl; rec = refl; ram = e }

module _ (kind : Kind) (inside : WithinWindow kind) (Call : Type 0) (handed : Call → Handed kind.Setting) (gave : Call → Result)
    (setting : kind.Setting) (k : KeepsAdmitted (machine_of kind Call handed gave setting)) where
  abbrev m : Machine
  m = machine_of kind Call handed gave setting

  call_outside : (c : m.Call) → EqualOutside (window_on m c) (m.handed c).ram (m.gave c).ram
  call_outside c = rw (k.meets c) (called_outside kind inside (m.handed c))

  calls_equal : (c d : m.Call) → (m.handed c).setting ≡ (m.handed d).setting → (m.handed c).budget ≡ (m.handed d).budget
      → (m.handed c).rec ≡ (m.handed d).rec → EqualInside (window_on m c) (m.handed c).ram (m.handed d).ram
      → EqualBut (EqualInside (window_on m c)) (m.gave c) (m.gave d)
  calls_equal c d setting budget rec ram =
      rw (k.meets c, k.meets d, ← setting, ← budget, ← rec)
      (called_equal kind inside (m.handed c).setting (m.handed c).budget (m.handed c).rec (m.handed c).ram (m.handed d).ram ram)

  -- ---- calls in turn, and series

  first_equal : (x y : ℕ) (xs ys : List ℕ) → x ∷ xs ≡ y ∷ ys → (x ≡ y) × (xs ≡ ys)
  first_equal x y xs ys e = (ap (λ l. get_or l 0 0) e, ap (drop 1) e)

  turns_equal : (cs ds : List m.Call) (s t : State) → InTurn m cs s → InTurn m ds t → EqualStates m s t → budgets_of m cs ≡ budgets_of m ds
      → EqualAll (own_window m) (map m.gave cs) (map m.gave ds) × EqualStates m (left_in_turn m cs s) (left_in_turn m ds t)
  turns_equal [] [] s t g h e b = (tt, e)
  turns_equal [] (d ∷ ds) s t g h e b = absurd (omega (arith, ap length b))
  turns_equal (c ∷ cs) [] s t g h e b = absurd (omega (arith, ap length b))
  turns_equal (c ∷ cs) (d ∷ ds) s t g h e b =
      let budgets = first_equal _ _ (budgets_of m cs) (budgets_of m ds) b in
      let rest = turns_equal cs ds (gave_state m c) (gave_state m d) g.2 h.2 (one.rec, one.ram) budgets.1 in
      ((one, rest.0), rest.1)
    where
      own-window : window_on m c ≡ own_window m
      own-window = ap m.kind.window g.0

      rams : EqualInside (own_window m) (m.handed c).ram (m.handed d).ram
      rams =
          equal_on _ (m.handed c).ram s.ram (m.handed d).ram g.1.1
          (equal_on _ s.ram t.ram (m.handed d).ram e.1 (equal_back _ (m.handed d).ram t.ram h.1.1))

      one : EqualBut (EqualInside (own_window m)) (m.gave c) (m.gave d)
      one =
          subst (λ w. EqualBut (EqualInside w) (m.gave c) (m.gave d)) own-window
          (calls_equal c d (g.0 ∙ sym h.0) (first_equal _ _ (budgets_of m cs) (budgets_of m ds) b).0 (g.1.0 ∙ e.0 ∙ sym h.1.0)
          (subst (λ w. EqualInside w (m.handed c).ram (m.handed d).ram) (sym own-window) rams))

  -- the own calls of a series are calls in turn, and leave what it leaves
  own_turns : (cs : List (InSeries m.Call)) (s : State) → Series m cs s
      → InTurn m (own_calls m cs) s × (left_by_all (gave_state m) cs s ≡ left_in_turn m (own_calls m cs) s)
  own_turns [] s h = (tt, refl)
  own_turns (own c ∷ cs) s h =
      let rest = own_turns cs (gave_state m c) h.1 in
      let from = subst (λ (x : State). EqualStates m x s) (sym h.0.1) (refl, equal_same _ s.ram) in
      ((h.0.0, from, rest.0), rest.1)
  own_turns (other series_record series_ram c ∷ cs) s h =
      let still = other_stays m k series_record series_ram c s h.0 in
      let rest = own_turns cs s (subst (Series m cs) still h.1) in
      (rest.0, ap (left_by_all (gave_state m) cs) still ∙ rest.1)

  series_equal : (cs ds : List (InSeries m.Call)) (s t : State) → Series m cs s → Series m ds t → EqualStates m s t
      → budgets_of m (own_calls m cs) ≡ budgets_of m (own_calls m ds)
      → EqualAll (own_window m) (map m.gave (own_calls m cs)) (map m.gave (own_calls m ds))
      × EqualStates m (left_by_all (gave_state m) cs s) (left_by_all (gave_state m) ds t)
  series_equal cs ds s t g h e b =
      let one = own_turns cs s g in
      let two = own_turns ds t h in
      rw (one.1, two.1) (turns_equal (own_calls m cs) (own_calls m ds) s t one.0 two.0 e b)

  -- a refused call gives back the RAM that it was handed
  refused_ram : (c : m.Call) → Refuses m (m.handed c) → (m.gave c).ram ≡ (m.handed c).ram
  refused_ram c why = ap (λ (x : Result). x.ram) (refused_back m k c why)

  -- a call with a window leaves the bytes outside it
  window_stays : (w : Window) (c : m.Call) → window_on m c ≡ w → EqualOutside w (m.handed c).ram (m.gave c).ram
  window_stays w c e = subst (λ x. EqualOutside x (m.handed c).ram (m.gave c).ram) e (call_outside c)

  pub keeps_to_window : KeepsToWindow m
  keeps_to_window = record {
    outside_stays = λ w cs ram h.
        rams_stay (λ c. ram_alone (m.gave c).ram) (λ c. ram_alone (m.handed c).ram) (λ c. window_on m c ≡ w) (λ c. Refuses m (m.handed c)) w
        (window_stays w) refused_ram cs (ram_alone ram) h;
    series_stays = λ cs s h.
        rams_stay (gave_state m) (handed_state m) (OwnSetting m) (λ c. Refuses m (m.handed c)) (own_window m)
        (λ c e. window_stays (own_window m) c (ap m.kind.window e)) refused_ram cs s h;
    equal_calls = calls_equal;
    equal_in_turn = turns_equal;
    equal_series = series_equal;
  }
