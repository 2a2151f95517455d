-- `tables::suffixes::fall` meets its contract. The loop's invariant: the pairs from g1 down to g are equal, and each was counted.
-- Assumes nothing.
use Rattle.std.proofs.Common.{◌+◌, ◌≡◌}
use Rattle.tables.specs.laws.Figure9.{Fell}
use Rattle.tables.proofs.suffixes.fall.Given as goal

abbrev pub invariant-loop-g : goal.invariant-loop-g
invariant-loop-g l = Fell l.x.bytes.now l.f l.g1 l.g × (l.count + l.g ≡ l.initial.count + l.g1)
