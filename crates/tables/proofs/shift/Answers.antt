-- `tables::shift` meets its contract: the pairs stand in a local array, and the seconds are taken out of it.
-- Assumes nothing.
use Rattle.std.proofs.Common.{rules, refl, ap, ◌∙◌, List, ℕ, arith, length}
use Rattle.basics.specs.Rooms.{front}
use Rattle.tables.specs.Shift.{shift_table}
use Rattle.tables.specs.laws.Refusal.{sized, refuses_probe}
use Rattle.tables.specs.laws.Inside.{stays_bytes, stays_long, shift_taken}
use Rattle.tables.proofs.shift.Goals as goal

pub returns-in_err-x : goal.returns-in_err-x
returns-in_err-x c = search (rules, refuses_probe)

pub every_second-requires : goal.every_second-requires
every_second-requires c =
    omega (arith, stays_long c.fill.ensures.stays, stays_long c.fill-2.ensures.stays, sized 1 (length c.in_ok-x.x.bytes.now) (length c.args.room.now) c.in_ok-within.ensures refl)

pub returns : goal.returns
returns c =
    let v = c.fill.ensures in
    let w = c.fill-2.ensures in
    let e = c.in_ok-x.ensures.probe in
    record {
      answer = rw e at c.in_ok-within.ensures;
      room = c.every_second.ensures ∙ ap (λ (t : List ℕ). front t c.args.room.now) (shift_taken w.stays w.table ∙ ap shift_table (stays_bytes v.stays ∙ e));
    }
