use Rattle.std.proofs.Common.{◌∙◌, ◌-◌, sym, arith}
use borrow.Author.Tests.{eqb-false}
use Rattle.scans.specs.laws.Passes.{window_stops, window_goes_on}
use Rattle.scans.proofs.scan.Window.other_bytes.Goals as goal

pub returns-then-not-meet-clause-pass : goal.returns-then-not-meet-clause-pass
returns-then-not-meet-clause-pass c =
    let a = c.args in
    let s = a.self.now.scan in
    let v = c.loop-i.invariant in
    window_stops s.probe.now s.stream.now a.mem.now a.self.now.at a.top c.saturating_sub-low.result a.count.now c.meet.new.count c.saturating_sub-low.ensures
    c.requires.quiet (c.loop-i.i - 1)
    (record {
      from = omega arith;
      to = omega (arith, c.loop-i.auto.i);
      equal = λ t l h. v.alike t (omega arith) h;
      stops = eqb-false _ _ (sym c.meet.ensures.equal ∙ c.if-not-meet.true);
      count = omega (arith, c.meet.ensures.count, v.counted);
    })

pub returns : goal.returns
returns c =
    let a = c.args in
    let s = a.self.now.scan in
    let v = c.loop-i.invariant in
    let w =
    window_goes_on s.probe.now s.stream.now a.mem.now a.self.now.at a.top c.saturating_sub-low.result a.count.now c.loop-i.count c.saturating_sub-low.ensures
    c.requires.quiet
    (record { equal = λ t l h. v.alike t (omega (arith, v.from)) h; count = omega (arith, v.from, v.counted) })
    c.below.ensures in
    record { pass = w.0; within = w.1; kept = w.2 }
