-- `scans::scan::Window::ahead` meets its contract. The loop's invariant: the bytes before `high`, as many as were compared, are equal, and each was counted.
-- Assumes nothing.
use Rattle.std.proofs.Common.{ℕ, ◌+◌, ◌≤◌, ◌<◌, ◌≡◌}
use Rattle.basics.specs.Lists.{at}
use Rattle.scans.proofs.scan.Window.ahead.Given as goal

abbrev pub invariant-loop-equal : goal.invariant-loop-equal
invariant-loop-equal l =
    record {
      counted : l.count ≡ l.initial.count + l.equal;
      alike : (t : ℕ) → l.high ≤ t + l.equal → t < l.high → at l.self.scan.stream.now (l.self.at + t) ≡ at l.self.scan.probe.now t;
    }
