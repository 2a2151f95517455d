-- `scans::scan::Window::all_bytes` meets its contract: the plain pass is the remembering one with nothing remembered.
-- Assumes nothing.
use Rattle.scans.specs.laws.Passes.{plain-ahead}
use Rattle.scans.proofs.scan.Window.all_bytes.Goals as goal

pub returns : goal.returns
returns c =
    let s = c.args.self.now.scan in
    let e = plain-ahead s.probe.now s.stream.now c.args.self.now.at c.args.count.now c.ahead.result c.ahead.new.count c.ahead.ensures in
    record { pass = e.0; within = e.1 }
