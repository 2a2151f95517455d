-- `named` meets its contract: three texts, one after another.
-- Assumes nothing.
use Rattle.lines.specs.laws.Promise.{puts_then}
use Rattle.binding.specs.Said.{name_line}
use Rattle.binding.proofs.named.Goals as goal

pub returns : goal.returns
unfolding name_line
returns c = puts_then (puts_then c.word.ensures c.word-2.ensures) c.byte.ensures
