-- `Message::put` meets its contract: the line from the front of the buffer on.
-- Assumes nothing.
use Rattle.std.proofs.Common.{arith}
use Rattle.lines.specs.laws.Put.{after_short, after_some}
use Rattle.binding.specs.Said.{text_of}
use Rattle.binding.specs.laws.Said.{text_some}
use Rattle.binding.proofs.Message.put.Goals as goal

pub returns-clause-short : goal.returns-clause-short
returns-clause-short c =
    omega (arith, c.line.ensures.puts.laid.answer, after_short c.new-text.result.place (text_of c.args.self), c.line.ensures.size)

pub returns-clause-said : goal.returns-clause-said
returns-clause-said c =
    omega (arith, c.line.ensures.puts.laid.answer, after_some c.new-text.result.place (text_of c.args.self) (text_some c.args.self))
