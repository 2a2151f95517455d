-- `Replicates::entries_cause` meets its contract. The loop's invariant: no entry passed has a cause.
-- Assumes nothing.
use Rattle.std.proofs.Common.{◌≡◌, ℕ, ◌<◌}
use Rattle.writer.specs.Refusal.{entry_cause}
use Rattle.writer.proofs.refusal.Replicates.entries_cause.Given as goal

abbrev pub invariant-loop-k : goal.invariant-loop-k
invariant-loop-k l = (j : ℕ) → j < l.k → entry_cause l.self.ids.now l.self.lengths.now j ≡ 0
