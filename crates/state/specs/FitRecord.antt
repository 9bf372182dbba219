-- Fit records: four tests, each with a refusal of its own.
use Rattle.std.specs.Prelude.{ℕ, ◌+◌, ◌%◌, ◌^◌, Bool, true, not, ◌&&◌, ◌||◌, List, [], ◌∷◌, ◌++◌, eqb, ltb, leb}
use Rattle.refusal.specs.Refusals.{Rule, rule}
use Rattle.state.specs.declared.Base.{Base}
use Rattle.state.specs.declared.Base.TheVariants.{Nothing, Ram, External}
use Rattle.state.specs.declared.Record.{Record}

-- SP from 0x10000 to 0x18000
abbrev pub sp_in_bounds : ℕ → Bool
sp_in_bounds sp = leb 0x10000 sp && leb sp 0x18000

-- SP a multiple of 4
abbrev pub sp_aligned : ℕ → Bool
sp_aligned sp = eqb (sp % 4) 0

-- a RAM offset below 2 ^ 20
abbrev pub ram_offset_fits : Base → Bool
ram_offset_fits Nothing = true
ram_offset_fits (Ram o) = ltb o (2 ^ 20)
ram_offset_fits (External o) = true

-- an external offset below the data's length
abbrev pub external_offset_fits : Base → ℕ → Bool
external_offset_fits Nothing external = true
external_offset_fits (Ram o) external = true
external_offset_fits (External o) external = ltb o external

-- 02's frame test of FP: 0, or a multiple of 4 whose eight words lie in user RAM, from 0x10000 to 0x17FE0
abbrev pub fp_fits : ℕ → Bool
fp_fits fp = eqb fp 0 || (eqb (fp % 4) 0 && (leb 0x10000 fp && leb (fp + 32) 0x18000))

-- the first two, and the last two
abbrev pub sp_fits : ℕ → Bool
sp_fits sp = sp_in_bounds sp && sp_aligned sp

abbrev pub base_fits : Base → ℕ → Bool
base_fits b external = ram_offset_fits b && external_offset_fits b external

-- the build paper's fit record, given the external data's length: all four
unfoldable pub fit_record : Record → ℕ → Bool
fit_record r external = sp_fits r.sp && base_fits r.base external

-- refusals 41 and 42
abbrev pub bounds_rule : ℕ → Rule
bounds_rule sp = rule (not (sp_in_bounds sp)) 41 []

abbrev pub alignment_rule : ℕ → Rule
alignment_rule sp = rule (not (sp_aligned sp)) 42 []

abbrev pub sp_rules : ℕ → List Rule
sp_rules sp = bounds_rule sp ∷ alignment_rule sp ∷ []

-- refusals 43 and 44
abbrev pub base_rules : Base → ℕ → List Rule
base_rules b external = rule (not (ram_offset_fits b)) 43 [] ∷ rule (not (external_offset_fits b external)) 44 [] ∷ []

-- the first of the four that fails
abbrev pub fit_rules : Record → ℕ → List Rule
fit_rules r external = sp_rules r.sp ++ base_rules r.base external
