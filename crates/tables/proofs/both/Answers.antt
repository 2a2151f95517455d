-- `tables::both` meets its contract: the shift table is filled out of the suffix table that the first call left.
-- Assumes nothing.
use Rattle.std.proofs.Common.{rules, refl, sym, ap, ◌∙◌, arith, length}
use Rattle.basics.specs.Rooms.{front}
use Rattle.tables.specs.Both.{both_tables}
use Rattle.tables.specs.laws.Refusal.{sized, refuses_probe}
use Rattle.tables.specs.laws.Both.{both_filled}
use Rattle.tables.specs.laws.Inside.{stays_bytes}
use Rattle.tables.proofs.both.Goals as goal

pub returns-in_err-x : goal.returns-in_err-x
returns-in_err-x c = search (rules, refuses_probe)

pub invariant_of-pairs : goal.invariant_of-pairs
invariant_of-pairs c = record { reaches = omega (arith, sized 2 (length c.in_ok-x.x.bytes.now) (length c.args.room.now) c.in_ok-within.ensures refl) }

pub returns : goal.returns
returns c =
    let v = c.fill.ensures in
    let w = c.fill-2.ensures in
    let e = c.in_ok-x.ensures.probe in
    let name = sym (w.stays.room ∙ v.stays.room) in
    let all = both_filled c.in_ok-x.x.bytes.now v.table (rw (stays_bytes v.stays) at w.table) ∙ ap (λ t. front (both_tables t) c.args.room.now) e in
    record {
      answer = rw e at c.in_ok-within.ensures;
      room = grind (arith, name, all);
    }
