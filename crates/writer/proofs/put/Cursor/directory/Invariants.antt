-- `Cursor::directory` meets its contract. The loop's invariant: the first entries are put, and the next block starts at the sum of their lengths.
-- Assumes nothing.
use Rattle.std.proofs.Common.{◌≡◌, length}
use Rattle.writer.specs.Made.{sum_to, directory_bytes}
use Rattle.writer.specs.Inside.{Puts}
use Rattle.writer.proofs.put.Cursor.directory.Given as goal

abbrev pub invariant-loop-id : goal.invariant-loop-id
invariant-loop-id l =
    record {
      on : (goal.iterator-loop-id).can_next l.id-iterator;
      ends : (goal.iterator-loop-id).is_finite l.id-iterator;
      next : l.start ≡ sum_to l.replicates.lengths.now (length l.yielded);
      put : Puts l.initial.self (directory_bytes l.replicates.ids.now l.replicates.lengths.now (length l.yielded)) l.self;
    }
