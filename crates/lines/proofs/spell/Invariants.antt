-- `spell` meets its contract. The loop's invariant: the digits of `rest`, followed by what stands from place `first` on, are those of n.
-- So a place is left for each digit of `rest`, n having 20 digits at most.
-- Assumes nothing.
use Rattle.std.proofs.Common.{◌≤◌, ◌-◌}
use Rattle.lines.proofs.Spelling.{Spelt}
use Rattle.lines.proofs.spell.Given as goal

abbrev pub invariant-loop-first : goal.invariant-loop-first
invariant-loop-first l = (1 ≤ l.first) × Spelt l.n (l.first - 1) l.rest l.text
