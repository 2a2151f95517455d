use Rattle.std.proofs.Common.{◌∙◌, ◌-◌, ◌≡◌, arith}
use Rattle.listing.specs.laws.Room.{owned_none, owned_stop}
use Rattle.listing.specs.laws.Text.{going_more, going_stop}
use Rattle.listing.proofs.Found.owned.Goals as goal

pub returns-then-self-k : goal.returns-then-self-k
returns-then-self-k c =
    let l = c.loop-k in
    let f = c.args.self.now in
    let e = going_stop l.invariant.1 (owned_stop c.args.id f.result.now (f.total - l.k) l.k c.if-self-k.true) l.text.within in
    record { puts = record { same = l.invariant.0; laid = e.0 }; told = e.1 }

pub loop-k-preserved : goal.loop-k-preserved
loop-k-preserved c =
    let l = c.loop-k in
    let line = c.pair_line.ensures in
    (line.same ∙ l.invariant.0, going_more l.invariant.1 (omega arith) c.if-self-k.false l.text.reach line.laid)

pub returns : goal.returns
returns c =
    let l = c.loop-k in
    let f = c.args.self.now in
    let none : f.total - l.k ≡ 0 = omega arith in
    let e = going_stop l.invariant.1 (rw none (owned_none c.args.id f.result.now l.k)) l.text.within in
    record { puts = record { same = l.invariant.0; laid = e.0 }; told = omega (arith, e.1) }
