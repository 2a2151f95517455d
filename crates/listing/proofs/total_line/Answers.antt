-- `total_line` meets its contract: it is a line of a word and two numbers.
-- Assumes nothing.
use Rattle.listing.specs.Listing.{total_line}
use Rattle.listing.proofs.total_line.Goals as goal

pub returns : goal.returns
unfolding total_line
returns c = c.numbers_line.ensures.puts
