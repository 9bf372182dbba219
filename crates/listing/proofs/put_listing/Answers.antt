use mathlib.Core.Path.{sym, ap, ◌∙◌}
use Rattle.count.specs.Count.{count_program, seen_count}
use Rattle.listing.proofs.Laws.{accepted_count, listing_accepted, listing_refused}
use Rattle.listing.proofs.put_listing.Goals as goal

pub put_page-requires : goal.put_page-requires
put_page-requires c =
    accepted_count c.args.page.now (sym (ap seen_count c.in-Ok.is) ∙ c.count.ensures ∙ ap count_program c.listed.ensures)

pub returns-in-Err : goal.returns-in-Err
returns-in-Err c =
    let answer = sym (ap seen_count c.in-Err.is) ∙ c.count.ensures ∙ ap count_program c.listed.ensures in
    rw (listing_refused c.in-Err.refusal c.args.page.now answer) at c.put.ensures

pub returns-in-Ok : goal.returns-in-Ok
returns-in-Ok c =
    let answer = sym (ap seen_count c.in-Ok.is) ∙ c.count.ensures ∙ ap count_program c.listed.ensures in
    rw (listing_accepted c.args.page.now answer) at c.put_page.ensures
