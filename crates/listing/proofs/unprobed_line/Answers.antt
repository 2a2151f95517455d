-- `unprobed_line` meets its contract: three texts, one after another.
-- Assumes nothing.
use Rattle.lines.specs.laws.Promise.{puts_then}
use Rattle.listing.specs.Listing.{unprobed_line}
use Rattle.listing.proofs.unprobed_line.Goals as goal

pub returns : goal.returns
unfolding unprobed_line
returns c =
    puts_then (puts_then c.word.ensures c.figure.ensures) c.byte.ensures
