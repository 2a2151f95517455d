-- `Found::accepted` meets its contract: head, owners and end, one after another.
-- Assumes nothing.
use Rattle.lines.specs.laws.Promise.{puts_then, puts_as}
use Rattle.listing.specs.laws.Text.{accepted_whole}
use Rattle.listing.proofs.Found.accepted.Goals as goal

pub returns : goal.returns
returns c =
    let f = c.args.self.now in
    puts_as (accepted_whole f.holds f.counts.0 f.counts.1) (puts_then (puts_then c.head.ensures c.owners.ensures) c.total_line.ensures)
