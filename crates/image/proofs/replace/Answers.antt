use mathlib.Core.Path.{refl, sym, ap, ◌∙◌}
use Rattle.refusal.specs.Refusals.{decision_of}
use Rattle.image.specs.Images.{image_of}
use Rattle.image.proofs.Laws.{pasted}
use Rattle.image.proofs.Theorems.{replace_accepted}
use Rattle.image.proofs.replace.Goals as goal

pub returns : goal.returns
returns c =
    let s = c.args in
    let told = sym c.of_replace.ensures ∙ ap decision_of c.in_ok-of_replace.was in
    let has = replace_accepted (image_of s.image.now s.index.now s.platform) s.number s.page.now told in
    rw (told, c.put_page.ensures, c.count_of.ensures, pasted s.image.now s.page.now s.number has.1) (refl, refl)
