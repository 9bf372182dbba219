-- An image that may be run, so that the claims are about something.
use Rattle.std.specs.Prelude.{ℕ, List, [], ◌∷◌, ◌++◌, ◌≡◌, length, replicate}
use Rattle.window.specs.Windows.{whole_ram}
use Rattle.platform.specs.Platforms.{default_platform}
use Rattle.state.specs.Record.{fresh_record}
use Rattle.stop.specs.Stops.{service, direct}
use Rattle.image.specs.Images.{Image, image_of}
use Rattle.image.specs.Index.{counts_in}
use Rattle.image_runs.specs.ImageRuns.{image_setting_of, image_run_of}
use Rattle.claims.specs.Pages.{page_of}
use Rattle.claims.specs.Cuts.{at_return}
use Rattle.image_claims.specs.ImageMachine.{InPage, AllowedIn, FitStartIn}

-- mov r0, #1 and return, and zeros behind: twice
abbrev returning_page : List ℕ
returning_page = page_of (0x2001 ∷ 0xDF00 ∷ []) ++ replicate 252 0

abbrev two_pages : List ℕ
two_pages = returning_page ++ returning_page

-- with its counts
abbrev two_paged : Image
two_paged = image_of two_pages (counts_in (image_of two_pages [] default_platform)) default_platform

-- its second page; without external data, and with all of RAM
abbrev pub in_second : InPage
in_second = record { setting = image_setting_of two_paged [] whole_ram; number = 1 }

pub record ImageExamples : Type 0 where
  pub allowed : AllowedIn in_second
  pub starts : (ram : List ℕ) → length ram ≡ 32768 → FitStartIn in_second (record { rec = fresh_record; ram = ram })
  pub runs : (ram : List ℕ) → length ram ≡ 32768
      → image_run_of in_second.setting 1 5 fresh_record ram ≡ record { stop = service (direct 0); steps = 2; rec = at_return; ram = ram }
