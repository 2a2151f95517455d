-- `tables::room::Pairs::every_second` meets its contract. The loop's invariant: the first i of every second number stand in front.
-- Assumes nothing.
use Rattle.std.proofs.Common.{◌+◌, ◌*◌}
use Rattle.basics.specs.Lists.{at}
use Rattle.basics.specs.laws.Rooms.{Filled}
use Rattle.tables.proofs.room.Pairs.every_second.Given as goal

abbrev pub invariant-loop-i : goal.invariant-loop-i
invariant-loop-i l = Filled (λ k. at l.self.room.now (l.from + 2 * k)) l.initial.room l.i l.room
