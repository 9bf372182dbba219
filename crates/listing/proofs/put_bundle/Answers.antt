use mathlib.Core.Path.{ap, ◌∙◌}
use Rattle.platform.specs.Programs.{Program}
use Rattle.bundle.specs.Reader.{read_bundle}
use Rattle.page.specs.declared.Halves.{Halves}
use Rattle.listing.proofs.Laws.{line_is}
use Rattle.listing.proofs.put_bundle.Goals as goal

pub returns : goal.returns
returns c =
    let halves = c.halves_of-h.ensures in
    let answer = c.read_bundle.ensures ∙ ap (λ (p : Program). read_bundle p c.args.k) c.listed.ensures in
    let pre = c.requires in
    rw (line_is c.args.page.now c.args.k c.read_bundle.result pre.0 pre.1 pre.2 (ap (λ (h : Halves). h.first) halves) (ap (λ (h : Halves). h.second) halves) answer c.unwrap_or-largest.ensures)
    at c.bundle_line.ensures
