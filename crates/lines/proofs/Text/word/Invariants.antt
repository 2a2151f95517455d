-- `Text::word` meets its contract. The loop's invariant: the bytes of w so far are put.
-- Assumes nothing.
use Rattle.std.proofs.Common.{take}
use Rattle.lines.specs.Promise.{Puts}
use Rattle.lines.proofs.Text.word.Given as goal

abbrev pub invariant-loop-b : goal.invariant-loop-b
invariant-loop-b l = Puts l.initial.self (take l.b-index l.w) l.self
