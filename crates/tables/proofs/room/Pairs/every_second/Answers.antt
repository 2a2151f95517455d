use Rattle.std.proofs.Common.{arith}
use Rattle.basics.specs.laws.Rooms.{filled_none, filled_more}
use Rattle.tables.proofs.room.Pairs.every_second.Goals as goal

pub loop-i-init : goal.loop-i-init
loop-i-init c = filled_none

pub loop-i-preserved : goal.loop-i-preserved
loop-i-preserved c = filled_more c.loop-i.invariant (omega arith) c.from.ensures
