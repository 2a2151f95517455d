-- `id` meets its contract: the log has the entry. Assumes nothing.
use Rattle.std.proofs.Common.{arith}
use Rattle.pairs.proofs.Outcomes.{entry_id}
use Rattle.pairs.proofs.run.Run.id.Goals as goal

pub returns : goal.returns
returns c =
    let u = c.args.self.now in
    entry_id u.log.now c.args.k (omega (arith, c.requires, u.counted)) c.unwrap-2.result (rw (c.unwrap.ensures, c.unwrap-2.ensures) at c.entry.ensures)
