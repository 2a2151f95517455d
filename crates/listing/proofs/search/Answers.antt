-- `search` meets its contract: the rooms that it lends to the check are large enough for every log, so only the log test refuses.
-- Assumes nothing.
use Rattle.std.proofs.Common.{refl, sym, arith, rules}
use Rattle.std.proofs.lemmas.Result.{err_from_is_err_and}
use Rattle.basics.specs.laws.Refusal.{number_above}
use Rattle.listing.specs.laws.Room.{holds_room}
use Rattle.listing.specs.laws.Answer.{tested_cause, refusal_is, refused_cause, count-told, held_told, missed_told}
use Rattle.listing.proofs.search.Goals as goal

pub returns-in_err-checked-clause-refused : goal.returns-in_err-checked-clause-refused
returns-in_err-checked-clause-refused c =
    let p = err_from_is_err_and c.from_residual.result c.from_residual.ensures.1 in
    let f = c.in_err-checked.field-0.0 in
    rw (p.1, p.2) (refused_cause _ _ _ _ c.in_err-checked.ensures (search rules) (search rules) (search rules) (λ z. omega (arith, number_above f.refusal)))

pub returns-in_err-replicates-clause-refused : goal.returns-in_err-replicates-clause-refused
returns-in_err-replicates-clause-refused c =
    let p = err_from_is_err_and c.from_residual-in_err-replicates.result c.from_residual-in_err-replicates.ensures.1 in
    rw (p.1, p.2) (tested_cause c.args.log.now c.in_err-replicates.field-0.0 c.in_err-replicates.ensures)

pub invariant_of-result : goal.invariant_of-result
invariant_of-result c =
    let e = c.in_ok-checked.ensures in
    let is = c.in_ok-replicates.ensures in
    let held = held_told _ _ _ _ e (search rules) (search rules) (search rules) refl is in
    record {
      holds = held;
      room = holds_room held;
      counts = (
        count-told _ _ _ _ e (search rules) (search rules) (search rules) refl is,
        missed_told _ _ _ _ e (search rules) (search rules) (search rules) refl is,
      );
    }

pub returns-clause-found : goal.returns-clause-found
returns-clause-found c = (refl, sym (refusal_is _ _ _ _ c.in_ok-checked.ensures (search rules) (search rules) (search rules)))
