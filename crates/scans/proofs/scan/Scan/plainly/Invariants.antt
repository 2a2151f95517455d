-- `scans::scan::Scan::plainly` meets its contract. The loop's invariant, `PlainLoop`: the windows done and those to come are the plain scan, and what is done is
-- noted and counted.
-- Assumes nothing.
use Rattle.std.proofs.Common.{◌+◌, ◌-◌, length}
use Rattle.scans.specs.laws.Loops.{PlainLoop}
use Rattle.scans.proofs.scan.Scan.plainly.Given as goal

abbrev pub invariant-loop-window : goal.invariant-loop-window
invariant-loop-window l =
    PlainLoop l.self.probe.now l.self.stream.now l.initial.room l.room l.j l.run.hits l.run.windows l.run.comparisons l.run.closest

abbrev pub decreases-loop-window : goal.decreases-loop-window
decreases-loop-window l = length l.self.stream.now + length l.self.probe.now - l.j
