-- Pages that an image has, and addresses there and back.
use Prim.Native.Nat.{ℕ, ◌+◌, ◌*◌, ◌%◌, ◌<◌}
use native.Mathlib.Omega.{arith}
use mathlib.Core.Bool.{true, ◌&&◌}
use mathlib.Core.Path.{◌≡◌}
use lib.Dec.{eqb, ltb, leb}
use lib.ListN.{length}
use borrow.Author.Tests.{leb-true, ltb-true, le-leb, eq-eqb}
use Rattle.laws.proofs.Tests.{both}
use Rattle.image.specs.Images.{Image, image_fits, pages_in, program_at, byte_of}
use Rattle.place.specs.Places.{fit_below}
use Rattle.address.specs.Addresses.{address_of, page_of, place_of, in_image, fit_in, fit_address}

pub in_image_lem : (image : Image) (p : ℕ) → in_image image p ≡ true → (p < pages_in image.bytes) × (p < 4096)
unfolding in_image image_fits
in_image_lem image p e =
    let parts = both (image_fits image.bytes) (ltb p (pages_in image.bytes)) e in
    let sized = both (leb 256 (length image.bytes) && leb (length image.bytes) 1048576) (eqb (length image.bytes % 256) 0) parts.0 in
    let most = leb-true (length image.bytes) 1048576 (both (leb 256 (length image.bytes)) (leb (length image.bytes) 1048576) sized.0).1 in
    let below = ltb-true p (pages_in image.bytes) parts.1 in
    (below, omega arith)

pub fit_in_lem : (image : Image) (p place : ℕ) → fit_in image p place ≡ true
    → (in_image image p ≡ true) × (fit_below (program_at image p) (byte_of image p) place ≡ true)
unfolding fit_in
fit_in_lem image p place = both (in_image image p) (fit_below (program_at image p) (byte_of image p) place)

pub fit_address_lem : (image : Image) (address : ℕ) → fit_address image address ≡ true → fit_in image (page_of address) (place_of address) ≡ true
unfolding fit_address
fit_address_lem image address e =
    (both (eqb (address % 2) 0) (fit_in image (page_of address) (place_of address))
    (both (leb 0x80000000 address) (eqb (address % 2) 0 && fit_in image (page_of address) (place_of address)) e).1).1

-- ---- the address of a place

pub page_of_lem : (p q : ℕ) → q < 128 → page_of (address_of p q) ≡ p
page_of_lem p q l = omega arith

pub place_of_lem : (p q : ℕ) → q < 128 → place_of (address_of p q) ≡ q
place_of_lem p q l = omega arith

pub address_fits : (image : Image) (p q : ℕ) → q < 128 → fit_in image p q ≡ true → fit_address image (address_of p q) ≡ true
unfolding fit_address
address_fits image p q l e =
    let even : (0x80000000 + 256 * p + 2 * q) % 2 ≡ 0 = omega arith in
    rw (le-leb 0x80000000 (address_of p q) (omega arith), eq-eqb ((0x80000000 + 256 * p + 2 * q) % 2) 0 even, page_of_lem p q l, place_of_lem p q l) e
