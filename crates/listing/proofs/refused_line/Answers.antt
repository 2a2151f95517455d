-- `refused_line` meets its contract: it is a line of a word and two numbers.
-- Assumes nothing.
use Rattle.listing.specs.Listing.{refused_line}
use Rattle.listing.proofs.refused_line.Goals as goal

pub returns : goal.returns
unfolding refused_line
returns c = rw c.number.ensures at c.numbers_line.ensures.puts
