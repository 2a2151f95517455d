-- `tables::places::by_byte` meets its contract. The loop's invariant: the table is that of the first j bytes seen.
-- Assumes nothing.
use Rattle.std.proofs.Common.{◌≡◌}
use Rattle.basics.specs.Lists.{table}
use Rattle.tables.specs.laws.Seen.{seen}
use Rattle.tables.proofs.places.by_byte.Given as goal

abbrev pub invariant-loop-j : goal.invariant-loop-j
invariant-loop-j l = l.t ≡ table 256 (seen l.x.bytes.now l.j)
