-- `Cursor::trailer` meets its contract: two numbers and the mark, one after another.
-- Assumes nothing.
use Rattle.writer.specs.Made.{trailer_bytes}
use Rattle.writer.specs.laws.Put.{puts_then}
use Rattle.writer.proofs.put.Cursor.trailer.Goals as goal

pub returns : goal.returns
unfolding trailer_bytes
returns c = puts_then c.number.ensures (puts_then c.number-2.ensures c.bytes.ensures)
