-- 02's windows: the part of RAM that a run may read and write.
use Rattle.std.specs.Prelude.{ℕ, ◌+◌, ◌≤◌, ◌<◌, Bool, not, ◌&&◌, List, [], ◌≡◌, leb, length, get_or}
use Rattle.refusal.specs.Refusals.{Rule, rule}
use Rattle.window.specs.declared.Window.{Window}

-- offsets in RAM, from a start to below an end
abbrev pub window_of : ℕ → ℕ → Window
window_of start end = record { start = start; end = end }

-- all of RAM, as the runner gives it
abbrev pub whole_ram : Window
whole_ram = window_of 0 32768

-- the start is not above the end, nor the end above 32,768; an empty window is allowed
abbrev pub window_fits : Window → Bool
window_fits w = leb w.start w.end && leb w.end 32768

-- refusal 20
abbrev pub window_rule : Window → Rule
window_rule w = rule (not (window_fits w)) 20 []

-- an access of some bytes lies wholly inside
unfoldable pub inside_window : Window → ℕ → ℕ → Bool
inside_window w at bytes = leb w.start at && leb (at + bytes) w.end

-- ---- bytes inside and outside

-- an offset lies inside
abbrev pub Inside : Window → ℕ → Type 0
Inside w k = (w.start ≤ k) × (k < w.end)

-- RAMs of one length that have equal bytes at some offsets
abbrev pub EqualAt : (ℕ → Type 0) → List ℕ → List ℕ → Type 0
EqualAt At a b = (length a ≡ length b) × ((k : ℕ) → At k → get_or a k 0 ≡ get_or b k 0)

-- inside a window
abbrev pub EqualInside : Window → List ℕ → List ℕ → Type 0
EqualInside w = EqualAt (Inside w)

-- outside it
abbrev pub EqualOutside : Window → List ℕ → List ℕ → Type 0
EqualOutside w = EqualAt (λ k. Inside w k → ⊥)
