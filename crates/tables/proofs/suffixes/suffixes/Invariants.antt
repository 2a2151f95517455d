-- `tables::suffixes::suffixes` meets its contract. The loop's invariant: f and g are the page's, the entries from i on are set, and the
-- comparisons made and those still to come are all of them (`Going`).
-- Assumes nothing.
use Rattle.std.proofs.Common.{◌≡◌, length, set}
use Rattle.tables.specs.Both.{firsts, seconds}
use Rattle.tables.specs.Inside.{Stays}
use Rattle.tables.specs.laws.Figure9.{Going}
use Rattle.tables.proofs.suffixes.suffixes.Given as goal

abbrev pub invariant-loop-i : goal.invariant-loop-i
invariant-loop-i l =
    let p = l.fn.pairs in
    let x = p.x.bytes.now in
    record {
      stays : Stays p l.pairs;
      going : Going x (set (firsts p.room.now) l.last (length x)) l.i l.f l.g1 l.count (firsts l.pairs.room.now);
      others : seconds l.pairs.room.now ≡ seconds p.room.now;
    }
