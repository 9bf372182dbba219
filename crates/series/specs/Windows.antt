-- Windows: what is claimed of calls that are given a window of RAM, as 02 has it.
use Rattle.std.specs.Prelude.{ℕ, List, [], ◌∷◌, map, ◌≡◌}
use Rattle.window.specs.Windows.{EqualInside, EqualOutside}
use Rattle.window.specs.declared.Window.{Window}
use Rattle.plain.specs.PlainMachine.{Result}
use Rattle.plain.specs.EqualBut.{EqualBut}
use Rattle.series.specs.HandedOn.{Standing, InSeries, own, other, left_by_all, HandedOn}
use Rattle.series.specs.Machine.{Machine, Refuses}
use Rattle.series.specs.Series.{State, handed_state, gave_state, OwnSetting, Series}

-- ---- one RAM that is handed on, whatever else is

abbrev pub RamAlone : Type 0
RamAlone = Standing (Unit {0})

abbrev pub ram_alone : List ℕ → RamAlone
ram_alone ram = record { rec = tt; ram = ram }

module _ {Call : Type 0} (handed gave : Call → List ℕ) (window_on : Call → Window) (Refused : Call → Type 0) where
  -- calls in a row over one RAM: each is handed the RAM that the one before left. Own calls have this window; all else that they are
  -- handed is theirs, as program and record. The others are refused, whatever their window is
  abbrev pub OverOneRam : Window → List (InSeries Call) → List ℕ → Type 0
  OverOneRam w cs ram = HandedOn (λ c. ram_alone (gave c)) (λ c. ram_alone (handed c)) (λ c. window_on c ≡ w) Refused cs (ram_alone ram)

  -- bytes outside the window stay
  abbrev pub OutsideStays : Type 0
  OutsideStays = (w : Window) (cs : List (InSeries Call)) (ram : List ℕ) → OverOneRam w cs ram
      → EqualOutside w ram (left_by_all (λ c. ram_alone (gave c)) cs (ram_alone ram)).ram

-- ---- results one by one

abbrev pub EqualAll : Window → List Result → List Result → Type 0
EqualAll w [] [] = Unit {0}
EqualAll w [] (y ∷ ys) = ⊥
EqualAll w (x ∷ xs) [] = ⊥
EqualAll w (x ∷ xs) (y ∷ ys) = EqualBut (EqualInside w) x y × EqualAll w xs ys

module _ (m : Machine) where
  abbrev pub window_on : m.Call → Window
  window_on c = m.kind.window (m.handed c).setting

  -- ---- calls with the machine's setting

  abbrev pub own_window : Window
  own_window = m.kind.window m.setting

  -- states with one record, whose RAMs are equal inside the window
  abbrev pub EqualStates : State → State → Type 0
  EqualStates s t = (s.rec ≡ t.rec) × EqualInside own_window s.ram t.ram

  -- calls in turn with others on one RAM: each is handed the record that the one before left, and a RAM that is what the one before left
  -- inside the window; outside, anything may have been written meanwhile
  abbrev pub InTurn : List m.Call → State → Type 0
  InTurn [] s = Unit {0}
  InTurn (c ∷ cs) s = OwnSetting m c × EqualStates (handed_state m c) s × InTurn cs (gave_state m c)

  -- the state that the last of them left
  abbrev pub left_in_turn : List m.Call → State → State
  left_in_turn [] s = s
  left_in_turn (c ∷ cs) s = left_in_turn cs (gave_state m c)

  abbrev pub budgets_of : List m.Call → List ℕ
  budgets_of cs = map (λ c. (m.handed c).budget) cs

  -- the own calls of a series, in their order
  abbrev pub own_calls : List (InSeries m.Call) → List m.Call
  own_calls [] = []
  own_calls (own c ∷ cs) = c ∷ own_calls cs
  own_calls (other series_record series_ram c ∷ cs) = own_calls cs

  pub record KeepsToWindow : Type 0 where
    pub outside_stays : OutsideStays (λ c. (m.handed c).ram) (λ c. (m.gave c).ram) window_on (λ c. Refuses m (m.handed c))
    -- in a series too, where the record is handed on with RAM
    pub series_stays : (cs : List (InSeries m.Call)) (s : State) → Series m cs s
        → EqualOutside own_window s.ram (left_by_all (gave_state m) cs s).ram
    -- two calls with equal settings, budgets and records, whose RAMs are equal inside the window, give equal stops, steps, records and
    -- window bytes
    pub equal_calls : (c d : m.Call) → (m.handed c).setting ≡ (m.handed d).setting → (m.handed c).budget ≡ (m.handed d).budget
        → (m.handed c).rec ≡ (m.handed d).rec → EqualInside (window_on c) (m.handed c).ram (m.handed d).ram
        → EqualBut (EqualInside (window_on c)) (m.gave c) (m.gave d)
    -- and so do calls in turn with others, with equal budgets, one by one: whatever the others wrote outside the window
    pub equal_in_turn : (cs ds : List m.Call) (s t : State) → InTurn cs s → InTurn ds t → EqualStates s t → budgets_of cs ≡ budgets_of ds
        → EqualAll own_window (map m.gave cs) (map m.gave ds) × EqualStates (left_in_turn cs s) (left_in_turn ds t)
    -- and two series whose own calls have equal budgets, however refused calls stand among them
    pub equal_series : (cs ds : List (InSeries m.Call)) (s t : State) → Series m cs s → Series m ds t → EqualStates s t
        → budgets_of (own_calls cs) ≡ budgets_of (own_calls ds)
        → EqualAll own_window (map m.gave (own_calls cs)) (map m.gave (own_calls ds))
        × EqualStates (left_by_all (gave_state m) cs s) (left_by_all (gave_state m) ds t)
