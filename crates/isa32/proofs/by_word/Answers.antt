use mathlib.Core.Path.{refl}
use Rattle.isa.specs.ListedEncodings.{listed32, decode_by}
use Rattle.isa.specs.Rows.{pattern_at}
use Rattle.isa.proofs.Theorems.{apart32}
use Rattle.isa32.proofs.Masks.{miss, by_mask}
use Rattle.isa32.proofs.by_word.Goals as goal

pub returns-then-store : goal.returns-then-store
returns-then-store c = rw (c.field-t.ensures, c.field-imm12.ensures) (by_mask listed32 apart32 0 c.args.w refl c.if-store.true)

pub returns-then-store-2 : goal.returns-then-store-2
returns-then-store-2 c = rw (c.field-t.ensures, c.field-imm12.ensures) (by_mask listed32 apart32 1 c.args.w refl c.if-store-2.true)

pub returns-then-store-3 : goal.returns-then-store-3
returns-then-store-3 c = rw (c.field-t.ensures, c.field-imm12.ensures) (by_mask listed32 apart32 2 c.args.w refl c.if-store-3.true)

pub returns-then-load : goal.returns-then-load
returns-then-load c = rw (c.field-n.ensures, c.field-t.ensures, c.field-imm12.ensures) (by_mask listed32 apart32 3 c.args.w refl c.if-load.true)

pub returns-then-load-2 : goal.returns-then-load-2
returns-then-load-2 c = rw (c.field-n.ensures, c.field-t.ensures, c.field-imm12.ensures) (by_mask listed32 apart32 4 c.args.w refl c.if-load-2.true)

pub returns-then-load-3 : goal.returns-then-load-3
returns-then-load-3 c = rw (c.field-n.ensures, c.field-t.ensures, c.field-imm12.ensures) (by_mask listed32 apart32 5 c.args.w refl c.if-load-3.true)

pub returns-then-load-4 : goal.returns-then-load-4
returns-then-load-4 c = rw (c.field-n.ensures, c.field-t.ensures, c.field-imm12.ensures) (by_mask listed32 apart32 6 c.args.w refl c.if-load-4.true)

pub returns-then-load-5 : goal.returns-then-load-5
returns-then-load-5 c = rw (c.field-n.ensures, c.field-t.ensures, c.field-imm12.ensures) (by_mask listed32 apart32 7 c.args.w refl c.if-load-5.true)

pub returns : goal.returns
unfolding decode_by
returns c =
    let w = c.args.w in
    rw (
      miss (pattern_at listed32 0) w c.if-store.false,
      miss (pattern_at listed32 1) w c.if-store-2.false,
      miss (pattern_at listed32 2) w c.if-store-3.false,
      miss (pattern_at listed32 3) w c.if-load.false,
      miss (pattern_at listed32 4) w c.if-load-2.false,
      miss (pattern_at listed32 5) w c.if-load-3.false,
      miss (pattern_at listed32 6) w c.if-load-4.false,
      miss (pattern_at listed32 7) w c.if-load-5.false,
      c.arithmetic.ensures,
    )
