-- `check` meets its contract: a cause refuses and nothing is touched, or the owners' pairs are found and the work rooms cleared.
-- Assumes nothing.
use Rattle.std.proofs.Common.{rules, refl, arith}
use Rattle.std.proofs.lemmas.Result.{err_from_is_err_and}
use Rattle.basics.specs.laws.Refusal.{number_above}
use Rattle.pairs.specs.laws.Promise.{refused_is, granted, found_few, done_run}
use Rattle.pairs.proofs.check.Goals as goal

pub returns-in_err-count : goal.returns-in_err-count
returns-in_err-count c =
    let p = err_from_is_err_and c.from_residual.result c.from_residual.ensures.1 in
    rw (p.1, p.2) (refused_is c.in_err-count.ensures.cause (λ z. omega (arith, number_above c.in_err-count.field-0.0.refusal)))

pub invariant_of-run : goal.invariant_of-run
invariant_of-run c =
    let a = (granted c.in_ok-count.ensures.cause refl).allowed in
    record {
      counted = c.in_ok-count.ensures.count;
      some = a.some;
      short = a.short;
      for_tables = a.tables;
      for_memory = a.memory;
      within = omega arith;
    }

pub owners-requires-clause-room : goal.owners-requires-clause-room
owners-requires-clause-room c =
    rw c.in_ok-count.ensures.count (omega (arith, (granted c.in_ok-count.ensures.cause refl).allowed.result))

pub overflow_cast-found : goal.overflow_cast-found
overflow_cast-found c = omega (arith, found_few c.in_ok-count.ensures.cause refl refl c.owners.ensures)

pub returns : goal.returns
returns c =
    done_run c.in_ok-count.ensures.cause refl refl refl c.owners.ensures c.probe_size-size.ensures
    (search rules) (search rules) (search rules) (search rules) (search rules)
