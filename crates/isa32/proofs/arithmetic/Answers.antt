use mathlib.Core.Path.{refl}
use Rattle.isa.specs.ListedEncodings.{arithmetic32, decode_by}
use Rattle.isa.specs.Rows.{pattern_at}
use Rattle.isa32.proofs.Masks.{miss, by_mask}
use Rattle.isa32.proofs.arithmetic.Goals as goal

pub returns-then-w-eq4064280576 : goal.returns-then-w-eq4064280576
returns-then-w-eq4064280576 c = rw (c.imm16-imm.ensures, c.field-d.ensures) (by_mask arithmetic32 refl 0 c.args.w refl c.if-w-eq4064280576.true)

pub returns-then-w-eq4072669184 : goal.returns-then-w-eq4072669184
returns-then-w-eq4072669184 c = rw (c.imm16-imm.ensures, c.field-d.ensures) (by_mask arithmetic32 refl 1 c.args.w refl c.if-w-eq4072669184.true)

pub returns-then-w-eq4220580080 : goal.returns-then-w-eq4220580080
returns-then-w-eq4220580080 c = rw (c.field-n.ensures, c.field-d.ensures, c.field-m.ensures) (by_mask arithmetic32 refl 2 c.args.w refl c.if-w-eq4220580080.true)

pub returns-then-w-eq4222677232 : goal.returns-then-w-eq4222677232
returns-then-w-eq4222677232 c = rw (c.field-n.ensures, c.field-d.ensures, c.field-m.ensures) (by_mask arithmetic32 refl 3 c.args.w refl c.if-w-eq4222677232.true)

pub returns : goal.returns
unfolding decode_by
returns c =
    let w = c.args.w in
    rw (
      miss (pattern_at arithmetic32 0) w c.if-w-eq4064280576.false,
      miss (pattern_at arithmetic32 1) w c.if-w-eq4072669184.false,
      miss (pattern_at arithmetic32 2) w c.if-w-eq4220580080.false,
      miss (pattern_at arithmetic32 3) w c.if-w-eq4222677232.false,
    )
