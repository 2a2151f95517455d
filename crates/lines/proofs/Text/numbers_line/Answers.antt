-- `Text::numbers_line` meets its contract: five texts, one after another.
-- Assumes nothing.
use Rattle.std.proofs.Common.{arith}
use Rattle.lines.specs.laws.Promise.{puts_then}
use Rattle.lines.specs.Line.{numbers_line}
use Rattle.lines.proofs.Line.{numbers-length}
use Rattle.lines.proofs.Text.numbers_line.Goals as goal

pub returns-clause-puts : goal.returns-clause-puts
unfolding numbers_line
returns-clause-puts c = puts_then (puts_then (puts_then (puts_then c.word.ensures c.figure.ensures) c.byte.ensures) c.figure-2.ensures) c.byte-2.ensures

pub returns-clause-short : goal.returns-clause-short
returns-clause-short c = numbers-length c.args.w.now c.args.m c.args.n (omega arith) (omega arith)
