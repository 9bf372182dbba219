-- Platforms: what a host says of its machine.
use Rattle.std.specs.Prelude.{ℕ, Bool}
use Rattle.bits.specs.Fields.{bit}
use Rattle.isa.specs.Profiles.{Encodings, profile_of, encodings_of}
use Rattle.platform.specs.declared.Platform.{Platform}

-- the set of direct syscalls that never return, and the number of a profile
abbrev pub platform_of : ℕ → ℕ → Platform
platform_of set number = record { never_return = set; profile = number }

-- the same with another set
abbrev pub with_set : Platform → ℕ → Platform
with_set platform set = platform_of set platform.profile

-- the set has one bit for each direct syscall: bit n is syscall n (DF80 + n)
abbrev pub never_returns : ℕ → ℕ → Bool
never_returns set n = bit set n

-- the encodings that its profile lists
abbrev pub encodings_on : Platform → Encodings
encodings_on platform = encodings_of (profile_of platform.profile)

-- what the programs and tools give: the empty set and the full profile, as if by the build paper alone
abbrev pub default_platform : Platform
default_platform = platform_of 0 0
