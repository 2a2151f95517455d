-- `listed` meets its contract: a refused log's line, or all of an accepted one.
-- Assumes nothing.
use Rattle.std.proofs.Common.{ap, ◌∙◌, arith}
use Rattle.basics.specs.Refusal.{Cause}
use Rattle.basics.specs.laws.Refusal.{number_above}
use Rattle.lines.specs.laws.Promise.{puts_as}
use Rattle.listing.specs.Listing.{accepted_text, refused_line}
use Rattle.listing.specs.laws.Text.{listing-accepted, listing_refused}
use Rattle.listing.proofs.listed.Goals as goal

pub returns-in-Ok : goal.returns-in-Ok
returns-in-Ok c = let f = c.in-Ok.ensures.found in puts_as (ap accepted_text f.0 ∙ listing-accepted c.args.log.now f.1) c.accepted.ensures

pub returns-in-Err : goal.returns-in-Err
returns-in-Err c =
    let e = c.in-Err.ensures.refused in
    let n = number_above c.in-Err.fault.refusal in
    puts_as
    (ap (λ (k : Cause). refused_line k.refusal k.entry) e
    ∙ listing_refused c.args.log.now (λ z. omega (arith, n, ap (λ (k : Cause). k.refusal) e)))
    c.refused_line.ensures
