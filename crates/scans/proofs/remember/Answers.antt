-- `scans::remember` meets its contract: the six numbers of the search.
-- Assumes nothing.
use Rattle.std.proofs.Common.{ap, ◌∙◌}
use Rattle.scans.specs.inside.Search.{answer_by}
use Rattle.scans.specs.laws.Refusal.{handed_on}
use Rattle.scans.specs.laws.Search.{remember_served, remember_refused}
use Rattle.scans.proofs.remember.Goals as goal

pub returns-in_err-run : goal.returns-in_err-run
returns-in_err-run c =
    rw (handed_on c.from_residual.result c.from_residual.ensures.1) (remember_refused c.in_err-run.ensures)

pub returns : goal.returns
returns c =
    let s = c.search in
    remember_served c.in_ok-run.ensures (c.answer.ensures ∙ ap (answer_by c.in_ok-run.run') s.auto.positions)
