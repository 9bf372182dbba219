-- The library's version, 0.8.0, as one number.
use Rattle.std.specs.Prelude.{ℕ, ◌+◌, ◌*◌}

abbrev pub library_version : ℕ
library_version = 65536 * 0 + 256 * 8 + 0
