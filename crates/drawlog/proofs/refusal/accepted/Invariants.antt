-- `refusal::accepted` meets its contract. The loop's invariant: no entry passed has a cause.
-- Assumes nothing.
use Rattle.std.proofs.Common.{◌≡◌, ℕ, ◌<◌}
use Rattle.drawlog.specs.Refusal.{entry_cause}
use Rattle.drawlog.proofs.refusal.accepted.Given as goal

abbrev pub invariant-loop-k : goal.invariant-loop-k
invariant-loop-k l = (j : ℕ) → j < l.k → 0 ≡ entry_cause l.log j
