use mathlib.Core.Path.{◌≡◌, refl}
use native.Mathlib.Omega.{arith}
use borrow.Author.Rules.{rules}
use Rattle.text.proofs.Laws.{unchanged_lem}
use Rattle.text.proofs.Grows.{◌then◌}
use Rattle.short_layout.specs.ShortForm.{bytes_for, short_bytes}
use Rattle.short_layout.proofs.Laws.{field_more}
use Rattle.short_layout.proofs.put_numbers.Goals as goal

pub loop-i-init : goal.loop-i-init
unfolding bytes_for
loop-i-init c = record { same_buffer = refl; puts = unchanged_lem _ 0 (omega arith) }

pub loop-i-preserved : goal.loop-i-preserved
loop-i-preserved c = let l = c.loop-i in rw (field_more l.i c.args.numbers (omega arith) (omega arith)) (l.invariant then c.put_field.ensures)

pub returns : goal.returns
unfolding short_bytes
returns c =
    let e : c.loop-i.i ≡ 13 = omega arith in
    let put = rw e at c.loop-i.invariant in
    search (rules, put.puts)
