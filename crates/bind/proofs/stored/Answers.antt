-- `stored` is safe: the log lies within its room.
-- Assumes nothing.
use Rattle.std.proofs.Common.{sym, arith, length-take-le}
use Rattle.writer.specs.laws.Promise.{written_within}
use Rattle.bind.proofs.stored.Goals as goal

pub slice_bounds-room-end : goal.slice_bounds-room-end
slice_bounds-room-end c = omega (arith, rw c.in_ok-bytes.was at (written_within c.write.ensures), c.write.auto.room)

pub slice_bounds-replace-end : goal.slice_bounds-replace-end
slice_bounds-replace-end c = sym (length-take-le _ _ (omega (arith, rw c.in_ok-bytes.was at (written_within c.write.ensures), c.write.auto.room)))
