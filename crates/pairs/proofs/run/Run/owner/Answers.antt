-- `owner` meets its contract: a block shorter than the probe leaves its owner unprobed, and else the probe is cut off the block where it lies in the log.
-- Assumes nothing.
use Rattle.std.proofs.Common.{◌≤◌, ◌<◌, refl, sym, arith, length, take}
use Rattle.drawlog.specs.Log.{length_at}
use Rattle.drawlog.specs.Promise.{tested_of}
use Rattle.pairs.specs.Check.{probe_size}
use Rattle.pairs.specs.Promise.{step}
use Rattle.pairs.specs.laws.Check.{with_first, with_room, handed_length, of_handed, of_unprobed, told-probed, told-unprobed}
use Rattle.pairs.specs.laws.Inside.{same, onward_none, found-length, blocks_then, worked_none, found_none, onward_as}
use Rattle.pairs.proofs.run.Run.owner.Goals as goal

pub returns-then-block-size : goal.returns-then-block-size
returns-then-block-size c =
    let u = c.args.self.now in
    let h = handed_length u.log.now c.args.a (omega (arith, c.requires.there, u.counted)) c.block_at-block.ensures.bytes in
    let l : length_at u.log.now c.args.a < probe_size u.p = omega (arith, c.if-block-size.true, c.probe_size-size.ensures, h) in
    onward_as (sym (of_unprobed step u.p u.log.now c.args.a l)) (told-unprobed u.p u.log.now c.args.a l)
    (record {
      same = same u;
      worked = worked_none;
      found = found_none refl u.within;
      unprobed = refl;
    })

pub loop-b-init : goal.loop-b-init
loop-b-init c =
    let u = c.args.self.now in onward_none (with_first step _ u.log.now c.args.a) refl

pub pair-requires-clause-room : goal.pair-requires-clause-room
pair-requires-clause-room c =
    let i = c.loop-b.invariant in
    let u = c.args.self.now in
    let probe = take c.probe_size-size.result c.block_at-block.result.now in
    λ n. omega (arith, c.requires.room, i.found.number, found-length i.found, with_room step probe u.log.now c.args.a c.loop-b.b u.count n c.requires.there (omega arith))

pub loop-b-preserved : goal.loop-b-preserved
loop-b-preserved c = blocks_then step _ c.args.a c.loop-b.b c.loop-b.invariant c.pair.ensures

pub returns : goal.returns
returns c =
    let u = c.args.self.now in
    let size = c.probe_size-size in
    let h : c.args.a < (tested_of u.log.now).count = omega (arith, c.requires.there, u.counted) in
    let l : size.result ≤ length c.block_at-block.result.now = omega (arith, c.if-block-size.false) in
    let b = c.block_at-block.ensures.bytes in
    onward_as
    (of_handed step u.p u.log.now c.args.a size.result c.loop-b.b h b size.ensures l (omega (arith, u.counted)))
    (told-probed u.p u.log.now c.args.a (omega (arith, l, size.ensures, handed_length u.log.now c.args.a h b)))
    c.loop-b.invariant
