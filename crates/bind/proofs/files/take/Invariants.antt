-- `take` meets its contract. The loop's invariant: k files are read, the blocks stay within their room, and `end` is the sum of the first
-- k lengths.
-- Assumes nothing.
use Rattle.std.proofs.Common.{◌≡◌, ◌≤◌, length}
use Rattle.writer.specs.Made.{sum_to}
use Rattle.bind.proofs.files.take.Given as goal

abbrev pub invariant-loop-k : goal.invariant-loop-k
invariant-loop-k l = (l.end ≤ length l.blocks) × (sum_to l.lengths l.k ≡ l.end)
