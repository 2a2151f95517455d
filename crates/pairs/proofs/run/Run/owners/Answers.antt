-- `owners` meets its contract. Assumes nothing.
use Rattle.std.proofs.Common.{◌<◌, ◌∙◌, arith}
use Rattle.drawlog.specs.Promise.{tested_of}
use Rattle.pairs.specs.Promise.{step}
use Rattle.pairs.specs.laws.Check.{count_is, few_entries, pairs_first, pairs_room, unprobed_first, unprobed_le}
use Rattle.pairs.specs.laws.Inside.{onward_none, found-length, owners_then}
use Rattle.pairs.proofs.run.Run.owners.Goals as goal

pub loop-a-init : goal.loop-a-init
loop-a-init c =
    let u = c.args.self.now in onward_none (pairs_first step u.p u.log.now) (unprobed_first u.p u.log.now)

pub owner-requires-clause-few : goal.owner-requires-clause-few
owner-requires-clause-few c =
    let u = c.args.self.now in omega (arith, c.requires.unprobed_none, c.loop-a.invariant.unprobed, unprobed_le u.p u.log.now c.loop-a.a)

pub owner-requires-clause-room : goal.owner-requires-clause-room
owner-requires-clause-room c =
    let i = c.loop-a.invariant in
    let u = c.args.self.now in
    let h : c.loop-a.a < (tested_of u.log.now).count = omega (arith, u.counted) in
    let k = count_is u.log.now c.loop-a.a h in
    let room = pairs_room step u.p u.log.now c.loop-a.a u.count (omega arith) (u.counted ∙ k) (omega (arith, u.counted, k, few_entries u.log.now c.loop-a.a h)) in
    omega (arith, c.requires.room, i.found.number, i.same.1, found-length i.found, room.0)

pub loop-a-preserved : goal.loop-a-preserved
loop-a-preserved c = owners_then step c.loop-a.a c.loop-a.invariant c.owner.ensures
