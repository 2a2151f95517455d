-- `scans::scan::Window::below` meets its contract. The loop's invariant: what is left of the pass, after the comparisons made, is the pass.
-- Assumes nothing.
use Rattle.std.proofs.Common.{ℕ, ◌+◌, ◌≤◌, ◌≡◌, length}
use Rattle.scans.specs.Remember.{mem_from}
use Rattle.scans.specs.inside.Slots.{recalled}
use Rattle.scans.specs.inside.Window.{passed_of}
use Rattle.scans.proofs.scan.Window.below.Given as goal

abbrev pub invariant-loop-k : goal.invariant-loop-k
invariant-loop-k l =
    let x = l.self.scan.probe.now in
    let R : ℕ → ℕ = recalled l.mem (length x) in
    record {
      within : l.k ≤ l.from;
      counted : l.count + l.k ≤ l.initial.count + l.from;
      same : passed_of (mem_from x l.self.scan.stream.now R l.self.at l.k l.k) l.count ≡ passed_of (mem_from x l.self.scan.stream.now R l.self.at l.from l.from) l.initial.count;
    }

abbrev pub decreases-loop-k : goal.decreases-loop-k
decreases-loop-k l = l.k
