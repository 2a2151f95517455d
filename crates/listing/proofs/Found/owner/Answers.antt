-- `Found::owner` meets its contract: a block shorter than a probe makes the unprobed line and no pair, any other the lines of the owner's pairs.
-- Assumes nothing.
use Rattle.std.proofs.Common.{arith}
use Rattle.lines.specs.laws.Promise.{puts_as}
use Rattle.listing.specs.laws.Room.{owned_within}
use Rattle.listing.specs.laws.Text.{entry_ok, entry_some, unprobed_turn, unprobed-told, probed_turn, probed-told}
use Rattle.listing.proofs.Found.owner.Goals as goal

pub unwrap-requires : goal.unwrap-requires
unwrap-requires c = entry_ok c.args.self.now.holds c.requires.0 _ c.entry.ensures

pub unwrap-entry-requires : goal.unwrap-entry-requires
unwrap-entry-requires c = entry_some c.args.self.now.holds c.requires.0 _ (rw c.unwrap.ensures at c.entry.ensures)

pub returns-then-entry-lt-PROBE : goal.returns-then-entry-lt-PROBE
returns-then-entry-lt-PROBE c =
    let held = c.args.self.now.holds in
    let p = c.requires in
    let is = rw (c.unwrap.ensures, c.unwrap-entry.ensures) at c.entry.ensures in
    record {
      puts = puts_as (unprobed_turn held p.0 p.1 is (omega (arith, c.if-entry-lt-PROBE.true))) c.unprobed_line.ensures;
      told = unprobed-told held p.0 p.1 is (omega (arith, c.if-entry-lt-PROBE.true));
    }

pub owned-requires : goal.owned-requires
owned-requires c = owned_within c.args.self.now.holds c.requires.0 c.requires.1

pub returns : goal.returns
returns c =
    let held = c.args.self.now.holds in
    let p = c.requires in
    let is = rw (c.unwrap.ensures, c.unwrap-entry.ensures) at c.entry.ensures in
    record {
      puts = puts_as (probed_turn held p.0 p.1 is (omega (arith, c.if-entry-lt-PROBE.false))) c.owned.ensures.puts;
      told = probed-told held p.0 p.1 is c.owned.ensures.told;
    }
