-- `scans::aligned` meets its contract: the first place stands in the room of one entry.
-- Assumes nothing.
use Rattle.scans.specs.laws.Refusal.{handed_on}
use Rattle.scans.specs.laws.Search.{aligned_served, aligned_refused}
use Rattle.scans.proofs.aligned.Goals as goal

pub returns-in_err-run-clause-told : goal.returns-in_err-run-clause-told
returns-in_err-run-clause-told c =
    rw (handed_on c.from_residual.result c.from_residual.ensures.1) (aligned_refused c.in_err-run.ensures)

pub returns-clause-told : goal.returns-clause-told
returns-clause-told c = aligned_served c.in_ok-run.ensures c.tally.ensures
