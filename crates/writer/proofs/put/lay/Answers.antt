use Rattle.std.proofs.Common.{arith}
use Rattle.basics.specs.laws.Inlaid.{inlaid_next, inlaid_all}
use Rattle.writer.proofs.put.lay.Goals as goal

pub loop-i-preserved : goal.loop-i-preserved
loop-i-preserved c = inlaid_next _ _ c.loop-i.invariant (omega arith) (omega arith)

pub returns : goal.returns
returns c = inlaid_all c.args.w.now c.loop-i.i c.loop-i.invariant (omega arith)
