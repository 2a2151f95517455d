use Rattle.std.proofs.lemmas.Result.{err_from_is_err_and}
use Rattle.drawlog.proofs.Outcomes.{whole_fault}
use Rattle.drawlog.proofs.refusal.accepted.Goals as goal

pub returns-in_err-directory-clause-cause : goal.returns-in_err-directory-clause-cause
returns-in_err-directory-clause-cause c =
    let p = err_from_is_err_and c.from_residual.result c.from_residual.ensures.1 in
    rw (p.1, p.2) (whole_fault _ c.framed.result _ c.in_err-directory.ensures.cases c.framed.ensures.cause)
