-- `Replicates::fitting` meets its contract: 31 and 13, then the causes of the first bad entry, then those of the sizes.
-- Assumes nothing.
use Rattle.std.proofs.lemmas.Result.{err_from_is_err_and}
use Rattle.writer.specs.laws.Refusal.{none_seen, whole_given, counts_refuse, entries_answer, sizes_answer}
use Rattle.writer.proofs.refusal.Replicates.fitting.Goals as goal

pub returns-in_err-replicates-clause-cause : goal.returns-in_err-replicates-clause-cause
returns-in_err-replicates-clause-cause c =
    let p = err_from_is_err_and c.from_residual.result c.from_residual.ensures.1 in
    rw (p.1, p.2) (counts_refuse _ _ _ _ _ _ c.in_err-replicates.ensures.cases c.paired.ensures.cause)

pub returns-in_err-entries_cause-clause-cause : goal.returns-in_err-entries_cause-clause-cause
returns-in_err-entries_cause-clause-cause c =
    let p = err_from_is_err_and c.from_residual-in_err-entries_cause.result c.from_residual-in_err-entries_cause.ensures.1 in
    let g = whole_given _ _ _ c.in_ok-replicates.ensures.cases c.paired.ensures.given in
    let none = none_seen _ c.in_ok-replicates.ensures.variant c.paired.ensures.cause in
    rw (p.1, p.2) (entries_answer _ _ _ _ none _ (rw (g.1, g.2) at c.in_err-entries_cause.ensures))

pub returns-in_err-map_err-clause-cause : goal.returns-in_err-map_err-clause-cause
returns-in_err-map_err-clause-cause c =
    let p = err_from_is_err_and c.from_residual-in_err-map_err.result c.from_residual-in_err-map_err.ensures.1 in
    let g = whole_given _ _ _ c.in_ok-replicates.ensures.cases c.paired.ensures.given in
    let none = none_seen _ c.in_ok-replicates.ensures.variant c.paired.ensures.cause in
    rw (p.1, p.2)
    (sizes_answer _ _ _ _ none _ _ c.in_err-map_err.ensures.cases (rw (g.1, g.2) at c.in_ok-entries_cause.ensures) (rw (g.0, g.1, g.2) at c.size_cause.ensures))

pub returns-clause-cause : goal.returns-clause-cause
returns-clause-cause c =
    let g = whole_given _ _ _ c.in_ok-replicates.ensures.cases c.paired.ensures.given in
    let none = none_seen _ c.in_ok-replicates.ensures.variant c.paired.ensures.cause in
    sizes_answer _ _ _ _ none _ _ c.in_ok-map_err.ensures.cases (rw (g.1, g.2) at c.in_ok-entries_cause.ensures) (rw (g.0, g.1, g.2) at c.size_cause.ensures)
