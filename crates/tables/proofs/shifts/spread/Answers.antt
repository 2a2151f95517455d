use Rattle.std.proofs.Common.{refl, ◌∙◌, arith, length}
use Rattle.basics.specs.laws.Rooms.{filled_more}
use Rattle.tables.specs.Both.{seconds}
use Rattle.tables.specs.laws.Both.{half_reaches}
use Rattle.tables.specs.laws.Inside.{stays_none, stays_then}
use Rattle.tables.specs.laws.Figure11.{spread_none, spread_on}
use Rattle.tables.proofs.shifts.spread.Goals as goal

pub loop-q-init : goal.loop-q-init
loop-q-init c =
    let a = c.args in
    let p = a.pairs.now in
    let r = half_reaches (length p.x.bytes.now) p.room.now p.reaches in
    record { stays = stays_none; done = spread_none (seconds p.room.now) a.from a.s (omega (arith, r.1)); others = refl }

pub loop-q-preserved : goal.loop-q-preserved
loop-q-preserved c =
    let a = c.args in
    let p = a.pairs.now in
    let v = c.loop-q.invariant in
    let w = c.set_shift.ensures in
    let r = half_reaches (length p.x.bytes.now) p.room.now p.reaches in
    record {
      stays = stays_then v.stays w.stays;
      done = rw w.seconds (filled_more v.done (omega (arith, r.1)) (spread_on (seconds p.room.now) a.from a.s c.loop-q.q (omega arith)));
      others = w.firsts ∙ v.others;
    }
