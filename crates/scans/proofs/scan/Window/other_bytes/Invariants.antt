-- `scans::scan::Window::other_bytes` meets its contract: what is compared above `low`, and what is passed below it, is all of the window before its last byte.
-- The loop's invariant: the bytes from i on, as many as were compared, are equal, and each was counted.
-- Assumes nothing.
use Rattle.std.proofs.Common.{ℕ, ◌+◌, ◌≤◌, ◌<◌, ◌≡◌}
use Rattle.basics.specs.Lists.{at}
use Rattle.scans.proofs.scan.Window.other_bytes.Given as goal

abbrev pub invariant-loop-i : goal.invariant-loop-i
invariant-loop-i l =
    record {
      from : l.low ≤ l.i;
      counted : l.count + l.i ≡ l.initial.count + l.last;
      alike : (t : ℕ) → l.i ≤ t → t < l.last → at l.self.scan.stream.now (l.self.at + t) ≡ at l.self.scan.probe.now t;
    }
