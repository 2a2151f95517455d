-- `put` meets its contract: the four numbers are copied behind those of the pairs before.
-- Assumes nothing.
use Rattle.std.proofs.Common.{sym, add-zero, arith}
use Rattle.pairs.specs.laws.Inside.{same, worked_none, found_copied}
use Rattle.pairs.proofs.run.Run.put.Goals as goal

pub returns : goal.returns
returns c =
    record {
      same = same c.args.self.now;
      worked = worked_none;
      found = found_copied c.requires (omega arith) c.copy_from_slice.ensures.after;
      unprobed = sym (add-zero c.args.self.now.unprobed);
    }
