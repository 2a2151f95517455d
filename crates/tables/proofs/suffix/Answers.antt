-- `tables::suffix` meets its contract: the pairs stand in a local array, and the firsts are taken out of it.
-- Assumes nothing.
use Rattle.std.proofs.Common.{rules, refl, ap, ◌∙◌, List, ℕ, arith, length}
use Rattle.basics.specs.Rooms.{front}
use Rattle.tables.specs.Suffix.{suffix_table}
use Rattle.tables.specs.laws.Refusal.{sized, refuses_probe}
use Rattle.tables.specs.laws.Inside.{stays_long, suffix_taken}
use Rattle.tables.proofs.suffix.Goals as goal

pub returns-in_err-x : goal.returns-in_err-x
returns-in_err-x c = search (rules, refuses_probe)

pub every_second-requires : goal.every_second-requires
every_second-requires c =
    omega (arith, stays_long c.fill.ensures.stays, sized 1 (length c.in_ok-x.x.bytes.now) (length c.args.room.now) c.in_ok-within.ensures refl)

pub returns : goal.returns
returns c =
    let v = c.fill.ensures in
    let e = c.in_ok-x.ensures.probe in
    record {
      answer = rw e at c.in_ok-within.ensures;
      room = c.every_second.ensures ∙ ap (λ (t : List ℕ). front t c.args.room.now) (suffix_taken v.stays v.table ∙ ap suffix_table e);
    }
