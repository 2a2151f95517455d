-- `pair` meets its contract: an owner makes no pair with itself, and else what the search of block b counts tells whether it makes one.
-- Assumes nothing.
use Rattle.std.proofs.Common.{◌≡◌, None, refl, sym, arith}
use Rattle.pairs.specs.Promise.{step}
use Rattle.pairs.specs.laws.Check.{with_self, with_none, with_found}
use Rattle.pairs.specs.laws.Inside.{onward_none, onward_then}
use Rattle.pairs.proofs.run.Run.pair.Goals as goal

pub returns-then-a-b : goal.returns-then-a-b
returns-then-a-b c =
    let a = c.args in
    onward_none (with_self step a.probe.now a.self.now.log.now a.a a.b c.if-a-b.true) refl

pub returns-in_default : goal.returns-in_default
returns-in_default c =
    let a = c.args in
    let e : c.search.result ≡ None = (cc) in
    let t = rw e at c.search.ensures.told in
    rw (with_none step a.probe.now a.self.now.log.now a.a a.b c.if-a-b.false (sym t.number)) c.search.ensures.went

pub returns-in-Some : goal.returns-in-Some
returns-in-Some c =
    let a = c.args in
    let u = a.self.now in
    let g = c.search.ensures.went in
    let t = c.in-Some.ensures.told in
    onward_then
    (with_found step a.probe.now u.log.now a.a a.b c.if-a-b.false c.requires.named (rw g.same.0 at c.id-other.ensures) t.first t.number (omega (arith, c.in-Some.ensures.some)))
    refl g c.put.ensures
