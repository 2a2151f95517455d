-- `search` meets its contract: the stretch that the log hands out is block b, and the scan tells of it what is promised.
-- Assumes nothing.
use Rattle.std.proofs.Common.{refl, sym, add-zero, arith}
use Rattle.scans.specs.Promise.{tally_seen}
use Rattle.pairs.specs.Promise.{step}
use Rattle.pairs.specs.Inside.{Sought}
use Rattle.pairs.specs.laws.Inside.{same, run_ready, found_none, served, sought}
use Rattle.pairs.proofs.Outcomes.{scan_ok}
use Rattle.pairs.proofs.run.Run.search.Goals as goal

told : (c : goal.After-unwrap) → let u = c.args.self.now in Sought step c.args.probe.now u.log.now c.args.b u.tables.now u.memory.now (tally_seen c.aligned.result) c.aligned.new.tables c.aligned.new.memory
told c =
    let u = c.args.self.now in
    sought u.log.now c.args.b (omega (arith, c.requires.there, u.counted)) c.block_at-stream.ensures.bytes c.aligned.ensures.told (run_ready u c.requires.sized)

pub unwrap-requires : goal.unwrap-requires
unwrap-requires c =
    let u = c.args.self.now in
    scan_ok c.aligned.result
    (served u.log.now c.args.b (omega (arith, c.requires.there, u.counted)) c.block_at-stream.ensures.bytes c.aligned.ensures.told (run_ready u c.requires.sized))

pub returns-clause-told : goal.returns-clause-told
returns-clause-told c = rw c.unwrap.ensures at (told c)

pub returns-clause-went : goal.returns-clause-went
returns-clause-went c =
    let u = c.args.self.now in
    record {
      same = same u;
      worked = rw c.requires.sized at (told c).worked;
      found = found_none refl u.within;
      unprobed = sym (add-zero u.unprobed);
    }
