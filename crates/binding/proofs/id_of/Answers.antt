use Rattle.std.proofs.Common.{sym, arith}
use Rattle.binding.specs.laws.Ids.{read_more, read_empty, read_stop, read_all}
use Rattle.binding.proofs.id_of.Goals as goal

pub returns-then-is_empty : goal.returns-then-is_empty
returns-then-is_empty c = sym (read_empty _ (grind arith))

pub returns-in_err-value : goal.returns-in_err-value
returns-in_err-value c =
    rw c.from_residual.ensures (sym (read_stop c.loop-b.invariant.1 (omega arith) (omega (arith, c.in_err-value.ensures.value))))

pub loop-b-preserved : goal.loop-b-preserved
loop-b-preserved c =
    (c.in_ok-value.ensures.below, read_more c.loop-b.invariant.1 (omega arith) c.in_ok-value.ensures.value)

pub returns : goal.returns
returns c = sym (read_all c.loop-b.invariant.1 (omega arith) (grind arith) (omega arith))
