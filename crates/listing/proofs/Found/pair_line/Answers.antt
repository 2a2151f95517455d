-- `Found::pair_line` meets its contract: eight texts, one after another; the numbers stand at 4k and behind.
-- Assumes nothing.
use Rattle.lines.specs.laws.Promise.{puts_then}
use Rattle.listing.specs.Listing.{pair_line}
use Rattle.listing.proofs.Found.pair_line.Goals as goal

pub returns : goal.returns
unfolding pair_line
returns c =
    puts_then (puts_then (puts_then (puts_then (puts_then (puts_then (puts_then c.figure.ensures c.byte.ensures) c.figure-2.ensures) c.byte-2.ensures) c.figure-3.ensures) c.byte-3.ensures) c.figure-4.ensures) c.byte-4.ensures
