-- `head` meets its contract: five texts, one after another.
-- Assumes nothing.
use Rattle.lines.specs.laws.Promise.{puts_then}
use Rattle.listing.specs.Listing.{head_line}
use Rattle.listing.proofs.head.Goals as goal

pub returns : goal.returns
unfolding head_line
returns c =
    puts_then (puts_then (puts_then (puts_then c.word.ensures c.figure.ensures) c.word-2.ensures) c.figure-2.ensures) c.byte.ensures
