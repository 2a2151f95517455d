-- `write` meets its contract: a cause refuses and nothing is touched, or the inputs fit and the log is put at the front.
-- Assumes nothing.
use Rattle.std.proofs.Common.{refl, arith}
use Rattle.std.proofs.lemmas.Result.{err_from_is_err_and}
use Rattle.writer.specs.laws.Promise.{fault_is, granted, done_is, done_short}
use Rattle.writer.proofs.write.Goals as goal

pub returns-in_err-replicates : goal.returns-in_err-replicates
returns-in_err-replicates c =
    let p = err_from_is_err_and c.from_residual.result c.from_residual.ensures.1 in
    rw (p.1, p.2) (fault_is _ c.in_err-replicates.ensures.cause)

pub log-size-requires : goal.log-size-requires
log-size-requires c =
    let g = c.in_ok-replicates.ensures.given in
    rw (g.0, g.1, g.2) (granted c.in_ok-replicates.ensures.cause refl)

pub overflow_cast-result : goal.overflow_cast-result
overflow_cast-result c =
    let g = c.in_ok-replicates.ensures.given in
    let fit = granted c.in_ok-replicates.ensures.cause refl in
    omega (arith, fit.short, done_short fit (rw (g.0, g.1, g.2) at c.log-size.ensures))

pub returns : goal.returns
returns c =
    let g = c.in_ok-replicates.ensures.given in
    done_is (granted c.in_ok-replicates.ensures.cause refl) (rw (g.0, g.1, g.2) at c.log-size.ensures)
