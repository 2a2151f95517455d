use Rattle.std.proofs.Common.{◌<◌, add-one, arith, length, take-suc}
use Rattle.lines.specs.laws.Promise.{puts_none, puts_then}
use Rattle.lines.proofs.Text.word.Goals as goal

pub loop-b-init : goal.loop-b-init
loop-b-init c = puts_none c.args.self.now

pub loop-b-preserved : goal.loop-b-preserved
loop-b-preserved c =
    let l = c.loop-b in
    let w = c.args.w.now in
    let h : l.b-index < length w = omega arith in
    rw (add-one, take-suc w l.b-index 0 h) (puts_then l.invariant c.byte.ensures)
