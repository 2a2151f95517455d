-- `scans::scan::Scan::keep` meets its contract.
-- Assumes nothing.
use Rattle.std.proofs.Common.{arith, length}
use Rattle.scans.specs.laws.Slots.{kept_none, kept_at}
use Rattle.scans.proofs.scan.Scan.keep.Goals as goal

pub returns-then-v-eq0 : goal.returns-then-v-eq0
returns-then-v-eq0 c =
    let a = c.args in
    rw c.if-v-eq0.true (kept_none (length a.self.now.probe.now) a.mem.now a.start.at a.top c.args.self.now.ready.sizes.some (omega arith))

pub returns : goal.returns
returns c =
    let e = c.on-last in
    let a = c.args in
    kept_at (length a.self.now.probe.now) a.mem.now a.start.at a.top a.v e.result c.args.self.now.ready.sizes.some (omega arith) (omega arith) (omega arith) e.ensures
