-- `put::lay` meets its contract. The loop's invariant: the first i bytes of w lie there.
-- Assumes nothing.
use Rattle.std.proofs.Common.{take}
use Rattle.basics.specs.laws.Inlaid.{Inlaid}
use Rattle.writer.proofs.put.lay.Given as goal

abbrev pub invariant-loop-i : goal.invariant-loop-i
invariant-loop-i l = Inlaid l.initial.room l.at (take l.i l.w) l.room
