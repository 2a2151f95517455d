-- `tables::room::Pairs::set_suffix` meets its contract: the number at 2i is one of the firsts, and none of the seconds.
-- Assumes nothing.
use Rattle.tables.specs.laws.Both.{firsts-set, seconds_kept}
use Rattle.tables.proofs.room.Pairs.set_suffix.Goals as goal

pub returns-clause-firsts : goal.returns-clause-firsts
returns-clause-firsts c = firsts-set c.args.self.now.room.now c.args.i c.args.n

pub returns-clause-seconds : goal.returns-clause-seconds
returns-clause-seconds c = seconds_kept c.args.self.now.room.now c.args.i c.args.n
