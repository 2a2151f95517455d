-- `scans::causes` meets its contract: each test is the law of its cause.
-- Assumes nothing.
use Rattle.std.proofs.Common.{sym}
use Rattle.scans.specs.laws.Refusal.{refuses_empty, refuses_long, refuses_large, refuses_tables, refuses_memory, refuses_none}
use Rattle.scans.proofs.causes.Goals as goal

pub returns-then-m-eq0 : goal.returns-then-m-eq0
returns-then-m-eq0 c = let a = c.args in sym (refuses_empty a.m a.n a.t a.e c.if-m-eq0.true)

pub returns-then-m-gt-LONGEST : goal.returns-then-m-gt-LONGEST
returns-then-m-gt-LONGEST c = let a = c.args in sym (refuses_long a.m a.n a.t a.e c.if-m-eq0.false c.if-m-gt-LONGEST.true)

pub returns-then-n-gt-LARGEST : goal.returns-then-n-gt-LARGEST
returns-then-n-gt-LARGEST c =
    let a = c.args in
    sym (refuses_large a.m a.n a.t a.e c.if-m-eq0.false c.if-m-gt-LONGEST.false c.if-n-gt-LARGEST.true)

pub returns-then-t-paired : goal.returns-then-t-paired
returns-then-t-paired c =
    let a = c.args in
    sym (refuses_tables a.m a.n a.t a.e c.if-m-eq0.false c.if-m-gt-LONGEST.false c.if-n-gt-LARGEST.false c.if-t-paired.true)

pub returns-then-e-m : goal.returns-then-e-m
returns-then-e-m c =
    let a = c.args in
    sym (refuses_memory a.m a.n a.t a.e c.if-m-eq0.false c.if-m-gt-LONGEST.false c.if-n-gt-LARGEST.false c.if-t-paired.false c.if-e-m.true)

pub returns : goal.returns
returns c =
    let a = c.args in
    sym (refuses_none a.m a.n a.t a.e c.if-m-eq0.false c.if-m-gt-LONGEST.false c.if-n-gt-LARGEST.false c.if-t-paired.false c.if-e-m.false)
