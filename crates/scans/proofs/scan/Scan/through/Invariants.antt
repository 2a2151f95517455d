-- `scans::scan::Scan::through` meets its contract. The loop's invariant, `MemLoop`: the windows done and those to come are the remembering scan, the memory room
-- says what the scan remembers, and what is done is noted and counted.
-- Assumes nothing.
use Rattle.std.proofs.Common.{◌+◌, ◌-◌, length}
use Rattle.scans.specs.laws.Loops.{MemLoop}
use Rattle.scans.proofs.scan.Scan.through.Given as goal

abbrev pub invariant-loop-window : goal.invariant-loop-window
invariant-loop-window l =
    MemLoop l.self.probe.now l.self.stream.now l.initial.room l.room l.initial.mem l.mem l.step l.p l.top l.run.hits l.run.windows l.run.comparisons l.run.closest

abbrev pub decreases-loop-window : goal.decreases-loop-window
decreases-loop-window l =
    length l.self.stream.now + length l.self.probe.now - l.p.at
