-- `read_groups` calls itself with one group less allowed, so its measure is how many are.
use Rattle.leb128.proofs.+read_groups.Given as goal

abbrev pub decreases-read_groups : goal.decreases-read_groups
decreases-read_groups l = l.most
