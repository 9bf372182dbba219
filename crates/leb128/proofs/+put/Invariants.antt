-- `put` calls itself for what stands above the lowest group, so its measure is x.
use Rattle.leb128.proofs.+put.Given as goal

abbrev pub decreases-put : goal.decreases-put
decreases-put l = l.x
