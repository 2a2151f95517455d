use Rattle.std.proofs.Common.{rules, ◌∙◌, arith}
use Rattle.writer.specs.laws.Made.{sum_none}
use Rattle.bind.specs.laws.Lengths.{sum_stored}
use Rattle.bind.proofs.files.take.Goals as goal

pub loop-k-init : goal.loop-k-init
loop-k-init c = (omega arith, sum_none c.args.lengths.now)

pub loop-k-preserved : goal.loop-k-preserved
loop-k-preserved c =
    let l = c.loop-k in
    let reach = rw c.in_ok-read.ensures.ok_part at c.file.ensures in
    (search rules, sum_stored l.lengths l.k c.in_ok-read.read (omega arith) ∙ omega (arith, l.invariant.1))
