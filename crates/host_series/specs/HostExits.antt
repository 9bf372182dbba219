-- What a host decodes of a stop at a service, from the numbers that came back.
use Rattle.std.specs.Prelude.{ℕ, false, List, ◌⊎◌, ◌≡◌, eqb}
use Rattle.service.specs.Services.{service_of}
use Rattle.crossing.specs.Exits.{exit_numbers, decoded_exit}
use Rattle.crossing.specs.declared.ExitNumbers.{ExitNumbers}
use Rattle.crossing.specs.declared.StopNumbers.{StopNumbers}

abbrev pub decoded_stop : StopNumbers → ExitNumbers
decoded_stop stop = decoded_exit stop.value stop.literal

-- kinds 1 and 2
abbrev pub AtService : StopNumbers → Type 0
AtService stop = (stop.kind ≡ 1) ⊎ (stop.kind ≡ 2)

-- the exit of the page's service with the low byte that the stop tells, never kind 0
pub record Decodes (page : List ℕ) (stop : StopNumbers) : Type 0 where
  pub decodes : decoded_stop stop ≡ exit_numbers (service_of page stop.value)
  pub is_exit : eqb (decoded_stop stop).kind 0 ≡ false
