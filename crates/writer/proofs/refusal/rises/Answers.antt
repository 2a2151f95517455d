-- `refusal::rises` meets its contract: entry 0 has no id before it.
-- Assumes nothing.
use Rattle.std.proofs.Common.{sym}
use Rattle.basics.specs.laws.Lists.{rising_first, rising-later}
use Rattle.writer.proofs.refusal.rises.Goals as goal

pub returns-then-k-eq0 : goal.returns-then-k-eq0
returns-then-k-eq0 c = rw c.if-k-eq0.true (sym (rising_first _))

pub returns-else-k-eq0 : goal.returns-else-k-eq0
returns-else-k-eq0 c = sym (rising-later _ _ c.if-k-eq0.false)
