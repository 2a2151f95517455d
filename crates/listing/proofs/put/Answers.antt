-- `put` meets its contract: no listing is longer than its bound.
-- Assumes nothing.
use Rattle.std.proofs.Common.{arith}
use Rattle.lines.specs.laws.Put.{after_short}
use Rattle.listing.specs.Listing.{listing}
use Rattle.listing.specs.laws.Longest.{listing_short}
use Rattle.listing.proofs.put.Goals as goal

pub returns-clause-short : goal.returns-clause-short
returns-clause-short c =
    let s = c.args.log.now in
    omega (arith, c.listed.ensures.laid.answer, after_short c.new-text.result.place (listing s), listing_short s (λ i. omega (arith, c.type_inv.log i)))
