use Rattle.std.proofs.Common.{ℕ, ◌+◌, ◌-◌, ◌<◌, ◌≡◌, List, arith}
use Rattle.tables.specs.laws.Figure9.{Fell, fell_more, fell_stops, fell_ends}
use Rattle.tables.proofs.suffixes.fall.Goals as goal

-- what holds in a turn, with g as the page has it
turn : (x : List ℕ) (f g1 low : ℕ) → 0 < low → Fell x f g1 low → Fell x f g1 (low - 1 + 1)
turn x f g1 low h w =
    let e : low - 1 + 1 ≡ low = omega arith in
    rw e w

pub returns-then-x-g : goal.returns-then-x-g
returns-then-x-g c =
    let a = c.args in
    let s = fell_stops a.x.bytes.now a.f a.g1 (omega arith) (omega arith) (c.loop-g.g - 1) (turn _ _ _ _ c.loop-g-test.true c.loop-g.invariant.0) (rw c.len-last.ensures at c.if-x-g.true) in
    record { low = omega (arith, s.0, c.loop-g.invariant); count = omega (arith, s.1, c.loop-g.invariant) }

pub loop-g-preserved : goal.loop-g-preserved
loop-g-preserved c =
    let a = c.args in
    (fell_more a.x.bytes.now a.f a.g1 (omega arith) (omega arith) (c.loop-g.g - 1) (turn _ _ _ _ c.loop-g-test.true c.loop-g.invariant.0) (rw c.len-last.ensures at c.if-x-g.false), omega arith)

pub returns : goal.returns
returns c =
    let a = c.args in
    let z : c.loop-g.g ≡ 0 = omega arith in
    let s = fell_ends a.x.bytes.now a.f a.g1 (omega arith) (omega arith) (rw z at c.loop-g.invariant.0) in
    record { low = omega (arith, s.0, c.loop-g.invariant); count = omega (arith, s.1, c.loop-g.invariant) }
