-- Calls in a row, each handed the record and RAM that the one before left. A record may be handed on as itself, or as its bytes.
use Rattle.std.specs.Prelude.{ℕ, Bool, true, cond, List, [], ◌∷◌, ◌≡◌}

-- what stands between two calls; `Form` is what a record is handed on as
pub record Standing (Form : Type 0) : Type 0 where
  pub rec : Form
  pub ram : List ℕ

-- a call in a series is its own; or it is another, which may have been handed the series' record and the series' RAM, or foreign
-- ones, each by itself
pub data InSeries (Call : Type 0) : Type 0 where
  own : Call → InSeries Call
  other : (series_record series_ram : Bool) → Call → InSeries Call

abbrev pub call_in : {Call : Type 0} → InSeries Call → Call
call_in (own c) = c
call_in (other series_record series_ram c) = c

module _ {Form Call : Type 0} (gave : Call → Standing Form) where
  -- what stands after a call: what it gave back, where it was handed what stood before
  abbrev pub left_by : InSeries Call → Standing Form → Standing Form
  left_by (own c) s = gave c
  left_by (other series_record series_ram c) s =
      record { rec = cond series_record (gave c).rec s.rec; ram = cond series_ram (gave c).ram s.ram }

  -- after the last
  abbrev pub left_by_all : List (InSeries Call) → Standing Form → Standing Form
  left_by_all [] s = s
  left_by_all (c ∷ cs) s = left_by_all cs (left_by c s)

  module _ (handed : Call → Standing Form) (OwnSetting Refused : Call → Type 0) where
    -- an own call is handed the series' setting, and the record and RAM that stand; another is one that is refused
    abbrev pub HandedIn : InSeries Call → Standing Form → Type 0
    HandedIn (own c) s = OwnSetting c × (handed c ≡ s)
    HandedIn (other series_record series_ram c) s =
        Refused c × (series_record ≡ true → (handed c).rec ≡ s.rec) × (series_ram ≡ true → (handed c).ram ≡ s.ram)

    abbrev pub HandedOn : List (InSeries Call) → Standing Form → Type 0
    HandedOn [] s = Unit {0}
    HandedOn (c ∷ cs) s = HandedIn c s × HandedOn cs (left_by c s)
