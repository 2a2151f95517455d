use Rattle.std.proofs.Common.{sym, ap, length}
use Rattle.lines.specs.laws.Promise.{puts_none, puts_then, puts_as}
use Rattle.pairs.specs.Promise.{step}
use Rattle.pairs.specs.laws.Check.{pairs_first}
use Rattle.listing.specs.Listing.{draws}
use Rattle.listing.specs.laws.Text.{owners_first}
use Rattle.listing.proofs.Turns.{owners_next}
use Rattle.listing.proofs.Found.owners.Goals as goal

pub loop-a-init : goal.loop-a-init
loop-a-init c =
    let s = c.args.self.now.log.now in
    (sym (ap length (pairs_first step draws s)), puts_as (sym (owners_first s)) (puts_none c.args.text.now))

pub loop-a-preserved : goal.loop-a-preserved
loop-a-preserved c =
    (c.owner-told.ensures.told, puts_as (owners_next c.args.self.now.log.now c.loop-a.a) (puts_then c.loop-a.invariant.1 c.owner-told.ensures.puts))
