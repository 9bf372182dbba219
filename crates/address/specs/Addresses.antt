-- Addresses of places, as 02 has them: page p of an image lies at 0x80000000 + 256p, and a place in it at twice its number behind that.
use Rattle.std.specs.Prelude.{ℕ, ◌+◌, ◌-◌, ◌*◌, ◌/◌, ◌%◌, Bool, ◌&&◌, eqb, ltb, leb}
use Rattle.image.specs.Images.{Image, image_fits, pages_in, program_at, byte_of}
use Rattle.place.specs.Places.{fit_below}

abbrev pub address_of : ℕ → ℕ → ℕ
address_of page place = 0x80000000 + 256 * page + 2 * place

-- the page of an address, and in it the place, which is half the remainder; below the first page both are 0
abbrev pub page_of : ℕ → ℕ
page_of address = (address - 0x80000000) / 256

abbrev pub place_of : ℕ → ℕ
place_of address = (address - 0x80000000) % 256 / 2

-- the image has such a page; what is no image has none
unfoldable pub in_image : Image → ℕ → Bool
in_image image p = image_fits image.bytes && ltb p (pages_in image.bytes)

-- and a place is fit there, by the page's byte in the index: its bundle lies below that; an odd place also has a test of its own
unfoldable pub fit_in : Image → ℕ → ℕ → Bool
fit_in image p place = in_image image p && fit_below (program_at image p) (byte_of image p) place

-- an address is 0x80000000 + 256p + 2q, with a fit place q of a page p
unfoldable pub fit_address : Image → ℕ → Bool
fit_address image address =
    leb 0x80000000 address && (eqb (address % 2) 0 && fit_in image (page_of address) (place_of address))
