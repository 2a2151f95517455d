-- `tables::probe::Probe::within` meets its contract: the test is the law of its cause.
-- Assumes nothing.
use Rattle.std.proofs.Common.{sym, length, arith}
use Rattle.tables.specs.laws.Refusal.{refuses_short, refuses_none}
use Rattle.tables.proofs.probe.Probe.within.Goals as goal

pub returns-then-n-needed : goal.returns-then-n-needed
returns-then-n-needed c =
    let a = c.args in
    sym (refuses_short a.k (length a.self.bytes.now) a.n (λ e. omega arith) (omega arith) (rw c.len.ensures at c.if-n-needed.true))

pub returns : goal.returns
returns c =
    let a = c.args in
    sym (refuses_none a.k (length a.self.bytes.now) a.n (λ e. omega arith) (omega arith) (rw c.len.ensures at c.if-n-needed.false))
