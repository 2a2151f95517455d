use Rattle.std.proofs.Common.{◌-◌, sym, ◌∙◌, arith, eqb-true, length}
use borrow.Author.Tests.{eqb-false}
use Rattle.tables.specs.laws.Suffix.{suffix_le}
use Rattle.scans.specs.inside.Slots.{recalled}
use Rattle.scans.specs.laws.Passes.{rule_equal, rule_unequal, rule_skips, rule_matches, rule_stops, pass_none}
use Rattle.scans.proofs.scan.Window.below.Goals as goal

pub returns-then-not-meet : goal.returns-then-not-meet
returns-then-not-meet c =
    let a = c.args in
    let s = a.self.now.scan in
    let l = c.loop-k in
    let meet = c.meet in
    rule_unequal s.probe.now s.stream.now a.mem.now a.self.now.at l.k (l.k - 1) l.count (omega (arith, c.loop-k-test.true)) c.on-h.ensures c.recall-r.ensures
    c.if-r-eq0.true meet.ensures.count (eqb-false _ _ (sym meet.ensures.equal ∙ c.if-not-meet.true))
    ∙ l.invariant.same

pub loop-k-preserved-then-r-eq0 : goal.loop-k-preserved-then-r-eq0
loop-k-preserved-then-r-eq0 c =
    let a = c.args in
    let s = a.self.now.scan in
    let l = c.loop-k in
    let meet = c.meet in
    record {
      within = omega arith;
      counted = omega arith;
      same = rule_equal s.probe.now s.stream.now a.mem.now a.self.now.at l.k (l.k - 1) l.count (omega arith) c.on-h.ensures c.recall-r.ensures
          c.if-r-eq0.true meet.ensures.count (eqb-true _ _ (sym meet.ensures.equal ∙ c.if-not-meet.false))
          ∙ l.invariant.same;
    }

pub overflow_sub-k : goal.overflow_sub-k
overflow_sub-k c = omega (arith, c.suffix-s.ensures, suffix_le c.args.self.now.scan.probe.now (c.loop-k.k - 1) (omega arith))

pub loop-k-preserved : goal.loop-k-preserved
loop-k-preserved c =
    let a = c.args in
    let s = a.self.now.scan in
    let l = c.loop-k in
    record {
      within = omega arith;
      counted = omega arith;
      same = rule_skips s.probe.now s.stream.now a.mem.now a.self.now.at l.k (l.k - 1) l.count (omega arith) c.on-h.ensures c.recall-r.ensures
          c.suffix-s.ensures c.if-r-eq0.false c.if-r-s.true
          ∙ l.invariant.same;
    }

pub returns-then-s-k : goal.returns-then-s-k
returns-then-s-k c =
    let a = c.args in
    let s = a.self.now.scan in
    let l = c.loop-k in
    rule_matches s.probe.now s.stream.now a.mem.now a.self.now.at l.k (l.k - 1) l.count (omega arith) c.on-h.ensures c.recall-r.ensures
    c.suffix-s.ensures c.if-r-s.false c.if-s-k.true
    ∙ l.invariant.same

pub overflow_sub-stop : goal.overflow_sub-stop
overflow_sub-stop c =
    omega (arith, c.suffix-s.ensures, c.if-s-k.false, suffix_le c.args.self.now.scan.probe.now (c.loop-k.k - 1) (omega arith))

pub returns-else-s-k : goal.returns-else-s-k
returns-else-s-k c =
    let a = c.args in
    let s = a.self.now.scan in
    let l = c.loop-k in
    rule_stops s.probe.now s.stream.now a.mem.now a.self.now.at l.k (l.k - 1) l.count (omega arith) c.on-h.ensures c.recall-r.ensures
    c.suffix-s.ensures c.if-r-s.false c.if-s-k.false
    ∙ l.invariant.same

pub returns : goal.returns
returns c =
    let a = c.args in
    let s = a.self.now.scan in
    let l = c.loop-k in
    pass_none s.probe.now s.stream.now (recalled a.mem.now (length s.probe.now)) a.self.now.at l.k l.count (omega arith) ∙ l.invariant.same
