-- A run in page p of an image gives what a run on that page alone gives, where neither is refused.
use mathlib.Core.Path.{◌≡◌, sym, ◌∙◌}
use Rattle.platform.specs.Programs.{Setting}
use Rattle.series.specs.Machine.{Handed, called_by}
use Rattle.claims.specs.Demand3.{lone_page}
use Rattle.claims.specs.Demand3 as lone
use Rattle.claims.proofs.Machines.{code_keeps}
use Rattle.image_claims.specs.ImageMachine.{InPage, image_page, handed_to}
use Rattle.image_claims.specs.AsAlone.{HandedAlike, NeitherRefused, AsAlone}
use Rattle.image_claims.proofs.Admitted.{to_alone}
use Rattle.image_claims.proofs.Machines.{image_keeps}

-- of any two calls
pub called_alike : (h : Handed InPage) (k : Handed Setting) → HandedAlike h k → NeitherRefused h k → called_by image_page h ≡ called_by lone_page k
called_alike h k alike n = rw (n.in_image, n.on_page, alike.setting, alike.budget, alike.rec, alike.ram)

pub as_alone : AsAlone
as_alone = record {
  same = λ c d alike n.
      (image_keeps (handed_to c).setting).meets c ∙ called_alike (handed_to c) (lone.handed_to d) alike n ∙ sym ((code_keeps (lone.handed_to d).setting).meets d);
  not_refused = λ x r ram e. (to_alone x r ram e).1;
}
