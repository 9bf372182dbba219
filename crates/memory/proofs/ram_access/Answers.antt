use Rattle.memory.proofs.Ram.{past_ram, in_ram}
use Rattle.memory.proofs.ram_access.Goals as goal

-- in RAM and in the window
pub returns : goal.returns
returns c = in_ram _ _ _ _ _ _ _ _ c.whole_ram.ensures c.holds.ensures (c.if-not-holds.false) c.holds-2.ensures (c.if-not-holds-2.false)

pub returns-then-not-holds : goal.returns-then-not-holds
returns-then-not-holds c = past_ram _ _ _ _ _ _ c.whole_ram.ensures c.holds.ensures (c.if-not-holds.true)

pub returns-then-not-holds-2 : goal.returns-then-not-holds-2
returns-then-not-holds-2 c = in_ram _ _ _ _ _ _ _ _ c.whole_ram.ensures c.holds.ensures (c.if-not-holds.false) c.holds-2.ensures (c.if-not-holds-2.true)
