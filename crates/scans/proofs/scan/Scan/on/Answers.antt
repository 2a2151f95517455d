-- `scans::scan::Scan::on` meets its contract: the slot goes on, or around.
-- Assumes nothing.
use Rattle.std.proofs.Common.{arith, length}
use Rattle.scans.specs.laws.Slots.{on_within}
use Rattle.scans.proofs.scan.Scan.on.Goals as goal

pub returns-then-slot-m : goal.returns-then-slot-m
returns-then-slot-m c =
    on_within (length c.args.self.now.probe.now) c.args.p c.args.self.now.ready.sizes.some c.requires.stands c.args.d (omega (arith, c.if-slot-m.true))
