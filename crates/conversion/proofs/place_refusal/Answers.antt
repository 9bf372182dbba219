use mathlib.Core.Path.{refl}
use Rattle.text.proofs.Grows.{all_put}
use Rattle.conversion.proofs.Laws.{line_length}
use Rattle.conversion.proofs.place_refusal.Goals as goal

pub returns : goal.returns
returns c = rw (c.bytes.ensures, all_put refl (line_length c.args.why) c.put.ensures) at c.place.ensures
