-- `accepted` meets its contract: the log test's cause first, then the check's own.
-- Assumes nothing.
use Rattle.std.proofs.Common.{sym}
use Rattle.std.proofs.lemmas.Result.{err_from_is_err_and}
use Rattle.pairs.proofs.Outcomes.{own_fault, no_fault}
use Rattle.pairs.proofs.accepted.Goals as goal

pub returns-in_err-map_err-clause-cause : goal.returns-in_err-map_err-clause-cause
returns-in_err-map_err-clause-cause c =
    let p = err_from_is_err_and c.from_residual-in_err-map_err.result c.from_residual-in_err-map_err.ensures.1 in
    rw (p.1, p.2)
    (own_fault c.args.log.now c.args.p c.args.t c.args.e c.args.n _ c.in_ok-count.ensures c.own_cause.result c.own_cause.ensures _ c.in_err-map_err.ensures.cases)

pub returns-clause-cause : goal.returns-clause-cause
returns-clause-cause c =
    no_fault c.args.log.now c.args.p c.args.t c.args.e c.args.n _ c.in_ok-count.ensures c.own_cause.result c.own_cause.ensures (sym c.in_ok-map_err.ensures.variant)
