-- `tables::shifts::spread` meets its contract. The loop's invariant: the second places are written up to q.
-- Assumes nothing.
use Rattle.std.proofs.Common.{◌≡◌}
use Rattle.basics.specs.laws.Rooms.{Filled}
use Rattle.tables.specs.Both.{firsts, seconds}
use Rattle.tables.specs.Inside.{Stays}
use Rattle.tables.specs.laws.Figure11.{spread_at}
use Rattle.tables.proofs.shifts.spread.Given as goal

abbrev pub invariant-loop-q : goal.invariant-loop-q
invariant-loop-q l =
    let d = seconds l.initial.pairs.room.now in
    record { stays : Stays l.initial.pairs l.pairs; done : Filled (spread_at d l.from l.s) d l.q (seconds l.pairs.room.now); others : firsts l.pairs.room.now ≡ firsts l.initial.pairs.room.now }
