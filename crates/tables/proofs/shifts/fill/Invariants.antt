-- `tables::shifts::fill` meets its contract. The first loop's invariant, `Prefixes`: the entries below j are final, and between j and s
-- no rest of x is a suffix of it. The second's: the shifts from m - i on are done. The suffix table stays in both.
-- Assumes nothing.
use Rattle.std.proofs.Common.{◌-◌, ◌≡◌, length}
use Rattle.basics.specs.laws.Rooms.{Filled}
use Rattle.tables.specs.Both.{firsts, seconds}
use Rattle.tables.specs.Inside.{Stays}
use Rattle.tables.specs.laws.Figure11.{Prefixes, match_at}
use Rattle.tables.proofs.shifts.fill.Given as goal

abbrev pub invariant-loop-s : goal.invariant-loop-s
invariant-loop-s l =
    let p = l.fn.pairs in
    record {
      stays : Stays p l.pairs;
      going : Prefixes p.x.bytes.now (seconds p.room.now) l.s l.j (seconds l.pairs.room.now);
      others : firsts l.pairs.room.now ≡ firsts p.room.now;
    }

abbrev pub invariant-loop-i : goal.invariant-loop-i
invariant-loop-i l =
    let p = l.fn.pairs in
    let x = p.x.bytes.now in
    record {
      stays : Stays p l.pairs;
      done : Filled (match_at x (length x - l.i)) (seconds p.room.now) (length x) (seconds l.pairs.room.now);
      others : firsts l.pairs.room.now ≡ firsts p.room.now;
    }
