use Rattle.std.proofs.Common.{ℕ, ◌+◌, ◌-◌, ◌<◌, ◌≡◌, List, ◌∙◌, length, take, set, length-take-le, get_or-take, arith}
use Rattle.basics.specs.Lists.{at, table}
use Rattle.tables.specs.laws.Seen.{seen, seen_none, seen_more, seen_all}
use Rattle.tables.proofs.places.by_byte.Goals as goal

pub loop-j-init : goal.loop-j-init
loop-j-init c = rw c.len.ensures (seen_none c.args.x.bytes.now)

-- byte j of all but the last is seen: it stands further on than those seen before
more : (x : List ℕ) (last j b : ℕ) {t : List ℕ} → last + 1 ≡ length x → j < last → b < 256 → b ≡ at (take last x) j → t ≡ table 256 (seen x j)
    → set t b (last - j) ≡ table 256 (seen x (j + 1))
more x last j b e l u p q =
    let b' : b ≡ at x j = p ∙ get_or-take last x j 0 l in
    let w : length x - 1 - j ≡ last - j = omega arith in
    rw (q, b') (rw w at (seen_more x j (omega arith) (omega arith)))

pub loop-j-preserved : goal.loop-j-preserved
loop-j-preserved c =
    let x = c.args.x.bytes.now in
    more x (c.len-last.result - 1) c.loop-j.j c.from-b.result (omega arith) (omega (arith, length-take-le (c.len-last.result - 1) x (omega arith))) (omega arith) c.from-b.ensures c.loop-j.invariant

pub returns : goal.returns
returns c =
    let x = c.args.x.bytes.now in
    c.loop-j.invariant ∙ seen_all x c.loop-j.j (omega (arith, length-take-le (c.len-last.result - 1) x (omega arith)))
