use Rattle.std.proofs.Common.{◌≡◌, sym, ◌+◌, arith, length}
use Rattle.std.proofs.lemmas.List.{length_push}
use Rattle.std.proofs.lemmas.Slice.Zip.{zip_turn, zip_end}
use Rattle.writer.specs.Made.{directory_bytes}
use Rattle.writer.specs.laws.Made.{sum_none, sum_next, sum_le}
use Rattle.writer.specs.laws.Put.{puts_none, puts_entries, puts_entry}
use Rattle.writer.proofs.put.Cursor.directory.Goals as goal

pub entry-requires : goal.entry-requires
entry-requires c =
    let r = c.args.replicates in
    let t = zip_turn r.ids.now r.lengths.now c.loop-id.yielded _ _ c.next.new.self _ (cc) (cc) c.loop-id.yielded_by _ c.in-Some.is c.next.ensures.steps in
    omega (arith, t.0, puts_entries _ _ _ c.loop-id.invariant.put)

pub overflow_add-start : goal.overflow_add-start
overflow_add-start c =
    let r = c.args.replicates in
    let t = zip_turn r.ids.now r.lengths.now c.loop-id.yielded _ _ c.next.new.self _ (cc) (cc) c.loop-id.yielded_by _ c.in-Some.is c.next.ensures.steps in
    let k = length c.loop-id.yielded in
    omega (arith, t.3 0, sum_next r.lengths.now k, sum_le r.lengths.now (k + 1) (length r.ids.now) (omega arith))

pub loop-id-init : goal.loop-id-init
unfolding directory_bytes
loop-id-init c = record { on = (tt, tt); ends = tt; next = sym (sum_none _); put = puts_none _ (omega arith) }

pub loop-id-preserved : goal.loop-id-preserved
loop-id-preserved c =
    let r = c.args.replicates in
    let k = length c.loop-id.yielded in
    let t = zip_turn r.ids.now r.lengths.now c.loop-id.yielded _ _ c.next.new.self _ (cc) (cc) c.loop-id.yielded_by _ c.in-Some.is c.next.ensures.steps in
    rw (length_push c.loop-id.yielded (c.in-Some.id, c.in-Some.size))
    (record {
      on = (tt, tt);
      ends = tt;
      next = omega (arith, t.3 0, sum_next r.lengths.now k);
      put = puts_entry r.ids.now r.lengths.now k _ _ _ c.loop-id.invariant.put c.entry.ensures (t.2 0) c.loop-id.invariant.next (t.3 0);
    })

pub returns : goal.returns
returns c =
    let r = c.args.replicates in
    let t = zip_end r.ids.now r.lengths.now c.loop-id.yielded _ _ c.next.new.self _ (cc) (cc) c.loop-id.yielded_by c.in-None.is c.next.ensures.steps in
    let all : length c.loop-id.yielded ≡ length r.ids.now = omega (arith, r.paired) in
    rw all at c.loop-id.invariant.put
