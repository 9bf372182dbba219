use Rattle.isa.proofs.Profiles.{known_below}
use Rattle.platform.proofs.is_known.Goals as goal

pub returns : goal.returns
returns c = known_below c.args.platform.profile
