use Rattle.std.proofs.Common.{◌∙◌}
use native.Mathlib.Omega.{arith}
use borrow.Author.Tests.{lt-leb}
use Rattle.service.specs.Services.{service_of, literal_service}
use Rattle.literal.specs.declared.Service.TheVariants.{Bad}
use Rattle.service.proofs.Theorems.{by_itself, below_lem, above}
use Rattle.service.proofs.service_of.Goals as goal
use Rattle.service.proofs.service_of.Goals.{in_default-via-then-n-lt1, in_default-via-else-n-lt1+else-n-lt128}

pub returns-in_default : goal.returns-in_default
unfolding service_of
returns-in_default c =
    c.by_low_byte.ensures
    ∙ by_itself _ Bad (literal_service _ _) (elim c.in_default.branch [
      | in_default-via-then-n-lt1 w ↦ below_lem c.args.n (omega arith)
      | in_default-via-else-n-lt1+else-n-lt128 w ↦ above c.args.n (lt-leb c.args.n 0x7F (omega arith))
    ])
