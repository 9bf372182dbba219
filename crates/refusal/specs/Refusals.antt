-- Refusals: their numbers and values, and the first one that applies to a call.
use Rattle.std.specs.Prelude.{ℕ, Bool, true, false, cond, List, [], ◌∷◌, Option, Some, None, Result, Ok, Err}
use Rattle.refusal.specs.declared.Refusal.{Refusal}
use Rattle.refusal.specs.declared.Refusal.TheVariants.{PageLength, RamLength, ExternalLength, UnfitPlace, FormLength, FormRange, NoSuchBundle, NotGrouped, RoomTooSmall, ImageLength, NoSuchPage, IndexLength, UnknownProfile, WindowBounds, WrongIndex, SpBounds, SpAlignment, RamOffset, ExternalOffset, NoRecord}

-- what a call is told: accepted, or refused with a number, the papers' or the library's own 255, and the values that it carries
pub data Decision : Type 0 where
  accepted : Decision
  refused : ℕ → List ℕ → Decision

-- a line of a call's refusal table: refused with this number and these values when the test holds
pub data Rule : Type 0 where
  rule : Bool → ℕ → List ℕ → Rule

-- a table is read top down; nothing else is refused
abbrev pub decision : List Rule → Decision
decision [] = accepted
decision (rule test n values ∷ rules) = cond test (refused n values) (decision rules)

abbrev pub is_accepted : Decision → Bool
is_accepted accepted = true
is_accepted (refused n values) = false

-- the answer of a call that is accepted, and of one that is refused
module _ {ℓ} {A : Type ℓ} where
  abbrev pub when_accepted : Decision → A → A → A
  when_accepted accepted answer otherwise = answer
  when_accepted (refused n values) answer otherwise = otherwise

-- ---- the code's cases

abbrev pub refusal_number : Refusal → ℕ
refusal_number PageLength = 1
refusal_number RamLength = 2
refusal_number ExternalLength = 3
refusal_number UnfitPlace = 5
refusal_number FormLength = 6
refusal_number (FormRange position) = 7
refusal_number NoSuchBundle = 8
refusal_number NotGrouped = 9
refusal_number RoomTooSmall = 10
refusal_number ImageLength = 12
refusal_number NoSuchPage = 13
refusal_number IndexLength = 14
refusal_number UnknownProfile = 18
refusal_number WindowBounds = 20
refusal_number WrongIndex = 21
refusal_number SpBounds = 41
refusal_number SpAlignment = 42
refusal_number RamOffset = 43
refusal_number ExternalOffset = 44
refusal_number (NoRecord position) = 255

abbrev pub refusal_values : Refusal → List ℕ
refusal_values PageLength = []
refusal_values RamLength = []
refusal_values ExternalLength = []
refusal_values UnfitPlace = []
refusal_values FormLength = []
refusal_values (FormRange position) = position ∷ []
refusal_values NoSuchBundle = []
refusal_values NotGrouped = []
refusal_values RoomTooSmall = []
refusal_values ImageLength = []
refusal_values NoSuchPage = []
refusal_values IndexLength = []
refusal_values UnknownProfile = []
refusal_values WindowBounds = []
refusal_values WrongIndex = []
refusal_values SpBounds = []
refusal_values SpAlignment = []
refusal_values RamOffset = []
refusal_values ExternalOffset = []
refusal_values (NoRecord position) = position ∷ []

abbrev pub carried_values : Option ℕ → List ℕ
carried_values None = []
carried_values (Some position) = position ∷ []

-- of an answer, whatever it holds where the call is accepted
module _ {A : Type 0} where
  abbrev pub decision_of : Result A Refusal → Decision
  decision_of (Ok answer) = accepted
  decision_of (Err r) = refused (refusal_number r) (refusal_values r)
