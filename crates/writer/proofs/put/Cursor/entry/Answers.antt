-- `Cursor::entry` meets its contract: three numbers, one after another.
-- Assumes nothing.
use Rattle.writer.specs.laws.Put.{puts_then}
use Rattle.writer.proofs.put.Cursor.entry.Goals as goal

pub returns : goal.returns
returns c = puts_then c.number.ensures (puts_then c.number-2.ensures c.number-3.ensures)
