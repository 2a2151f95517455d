-- `tables::room::Pairs::suffix` meets its contract: the first of pair i stands at 2i.
-- Assumes nothing.
use Rattle.std.proofs.Common.{sym, ◌∙◌}
use Rattle.tables.specs.laws.Both.{at-firsts}
use Rattle.tables.proofs.room.Pairs.suffix.Goals as goal

pub returns : goal.returns
returns c = c.from.ensures ∙ sym (at-firsts c.args.self.now.room.now c.args.i)
