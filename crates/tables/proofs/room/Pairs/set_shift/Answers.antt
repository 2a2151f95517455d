-- `tables::room::Pairs::set_shift` meets its contract: the number at 2i + 1 is one of the seconds, and none of the firsts.
-- Assumes nothing.
use Rattle.tables.specs.laws.Both.{firsts_kept, seconds-set}
use Rattle.tables.proofs.room.Pairs.set_shift.Goals as goal

pub returns-clause-firsts : goal.returns-clause-firsts
returns-clause-firsts c = firsts_kept c.args.self.now.room.now c.args.i c.args.n

pub returns-clause-seconds : goal.returns-clause-seconds
returns-clause-seconds c = seconds-set c.args.self.now.room.now c.args.i c.args.n
