-- `scans::prepare` meets its contract: where no cause holds, the calls of `tables` refuse nothing either.
-- Assumes nothing.
use Rattle.scans.specs.laws.Search.{both_serves, prepared}
use Rattle.scans.proofs.prepare.Goals as goal

pub returns-in_err-both : goal.returns-in_err-both
returns-in_err-both c =
    absurd (both_serves c.args.n c.args.e c.in_err-both.field-0.0 c.in_ok-causes.ensures c.in_err-both.ensures)

pub returns : goal.returns
returns c = prepared c.occurrence.result c.in_ok-causes.ensures c.in_ok-both.ensures c.occurrence.ensures
