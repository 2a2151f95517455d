-- `tables::probe::Probe::of` meets its contract: each test is the law of its cause.
-- Assumes nothing.
use Rattle.std.proofs.Common.{sym, ◌∙◌, length, eqb-true, arith}
use borrow.Author.Tests.{eqb-false}
use Rattle.tables.specs.laws.Refusal.{refuses_empty, refuses_long, refuses_none}
use Rattle.tables.proofs.probe.Probe.of.Goals as goal

pub returns-then-is_empty-clause-refusal : goal.returns-then-is_empty-clause-refusal
returns-then-is_empty-clause-refusal c = sym (refuses_empty 0 (length c.args.bytes.now) 0 (eqb-true (length c.args.bytes.now) 0 (sym c.is_empty.ensures ∙ c.if-is_empty.true)))

pub returns-then-bytes-gt-LONGEST-clause-refusal : goal.returns-then-bytes-gt-LONGEST-clause-refusal
returns-then-bytes-gt-LONGEST-clause-refusal c = sym (refuses_long 0 (length c.args.bytes.now) 0 (λ e. omega arith) (omega arith))

pub returns-clause-refusal : goal.returns-clause-refusal
returns-clause-refusal c = sym (refuses_none 0 (length c.args.bytes.now) 0 (eqb-false (length c.args.bytes.now) 0 (sym c.is_empty.ensures ∙ c.if-is_empty.false)) (omega arith) (omega arith))
