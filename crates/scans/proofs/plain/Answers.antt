-- `scans::plain` meets its contract.
-- Assumes nothing.
use Rattle.std.proofs.Common.{ap, ◌∙◌}
use Rattle.scans.specs.inside.Search.{answer_by}
use Rattle.scans.specs.laws.Refusal.{handed_on}
use Rattle.scans.specs.laws.Search.{ready, plain_served, plain_refused}
use Rattle.scans.proofs.plain.Goals as goal

pub returns-in_err-occ : goal.returns-in_err-occ
returns-in_err-occ c =
    rw (handed_on c.from_residual.result c.from_residual.ensures.1) (plain_refused c.in_err-occ.ensures)

pub invariant_of-scan : goal.invariant_of-scan
invariant_of-scan c = record { ready = (ready c.args.stream.now c.in_ok-occ.ensures).0 }

pub returns : goal.returns
returns c =
    let r = c.plainly-run in
    plain_served c.in_ok-occ.ensures r.ensures.run (c.answer.ensures ∙ ap (answer_by r.result) r.auto.room) r.ensures.room
