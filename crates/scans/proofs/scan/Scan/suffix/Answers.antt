-- `scans::scan::Scan::suffix` meets its contract.
-- Assumes nothing.
use Rattle.std.proofs.Common.{arith}
use Rattle.tables.specs.laws.Both.{both_reaches, suffix_there}
use Rattle.scans.proofs.scan.Scan.suffix.Goals as goal

pub bounds-self-i : goal.bounds-self-i
bounds-self-i c = let s = c.args.self.now in omega (arith, both_reaches s.probe.now s.ready.moving.begins)

pub returns : goal.returns
returns c =
    let s = c.args.self.now in (suffix_there s.probe.now s.ready.moving.begins c.args.i c.from.ensures c.requires).0
