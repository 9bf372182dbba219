-- Images, as 02 calls them: pages of 256 bytes, one behind the other; and the index beside one, a byte for each page.
use Rattle.std.specs.Prelude.{ℕ, ◌+◌, ◌*◌, ◌/◌, ◌%◌, Bool, not, ◌&&◌, List, [], ◌∷◌, ◌++◌, leb, ltb, eqb, length, get_or, take, drop}
use Rattle.refusal.specs.Refusals.{Rule, rule}
use Rattle.isa.specs.Profiles.{Profile, profile_of}
use Rattle.platform.specs.Programs.{Program, profile_rule}
use Rattle.platform.specs.declared.Platform.{Platform}
use Rattle.image.specs.declared.Image as declared

-- the bytes of an image and of its index, and what the counts go by, as a program has it
pub record Image : Type 0 where
  pub bytes : List ℕ
  pub index : List ℕ
  pub never_return : ℕ
  pub profile : Profile

-- on a platform
abbrev pub image_of : List ℕ → List ℕ → Platform → Image
image_of bytes index platform =
    record { bytes = bytes; index = index; never_return = platform.never_return; profile = profile_of platform.profile }

-- the code's own
abbrev pub seen_image : declared.Image → Image
seen_image i = image_of i.pages.now i.index.now i.platform

-- 1 to 4,096 pages
unfoldable pub image_fits : List ℕ → Bool
image_fits bytes = leb 256 (length bytes) && leb (length bytes) 1048576 && eqb (length bytes % 256) 0

abbrev pub pages_in : List ℕ → ℕ
pages_in bytes = length bytes / 256

-- page p is bytes 256p to 256p + 255
abbrev pub page_at : List ℕ → ℕ → List ℕ
page_at bytes p = take 256 (drop (256 * p) bytes)

-- as a program
abbrev pub program_at : Image → ℕ → Program
program_at image p = record { page = page_at image.bytes p; never_return = image.never_return; profile = image.profile }

-- its byte in the index
abbrev pub byte_of : Image → ℕ → ℕ
byte_of image p = get_or image.index p 0

-- the bytes with another page p
abbrev pub with_page_at : List ℕ → ℕ → List ℕ → List ℕ
with_page_at bytes p page = take (256 * p) bytes ++ page ++ drop (256 * p + 256) bytes

-- refusals 12, 13 and 14
abbrev pub image_rule : List ℕ → Rule
image_rule bytes = rule (not (image_fits bytes)) 12 []

abbrev pub number_rule : List ℕ → ℕ → Rule
number_rule bytes p = rule (not (ltb p (pages_in bytes))) 13 []

abbrev pub index_length_rule : List ℕ → List ℕ → Rule
index_length_rule bytes index = rule (not (eqb (length index) (pages_in bytes))) 14 []

-- 18, 12: what every call tests first that takes an image
abbrev pub image_rules : Image → List Rule
image_rules image = profile_rule image.profile ∷ image_rule image.bytes ∷ []

-- 18, 12, 13, 14: what every call tests first that takes a page of an image
abbrev pub page_rules : Image → ℕ → List Rule
page_rules image p = image_rules image ++ (number_rule image.bytes p ∷ index_length_rule image.bytes image.index ∷ [])

-- refusal 1, of a page that is to be put into an image
abbrev pub whole_page_rule : List ℕ → Rule
whole_page_rule page = rule (not (eqb (length page) 256)) 1 []
