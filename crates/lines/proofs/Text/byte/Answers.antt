-- `Text::byte` meets its contract: a store out of range changes nothing.
-- Assumes nothing.
use Rattle.std.proofs.Common.{refl, sym, arith}
use Rattle.std.proofs.Math.Seq.{set_out}
use Rattle.lines.specs.Put.{put, after}
use Rattle.lines.proofs.Text.byte.Goals as goal

pub returns-then-at-self : goal.returns-then-at-self
unfolding put after
returns-then-at-self c = record { same = refl; laid = record { answer = omega arith; buffer = refl } }

pub returns-else-at-self : goal.returns-else-at-self
unfolding put after
returns-else-at-self c =
    let t = c.args.self.now in
    record { same = refl; laid = record { answer = omega arith; buffer = sym (set_out t.room.now t.place c.args.b (omega arith)) } }
