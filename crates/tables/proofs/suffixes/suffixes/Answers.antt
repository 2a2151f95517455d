use Rattle.std.proofs.Common.{ℕ, ◌+◌, ◌-◌, ◌<◌, ◌≡◌, refl, ◌∙◌, List, false, arith, length}
use Rattle.tables.specs.Both.{firsts}
use Rattle.tables.specs.Comparisons.{told}
use Rattle.tables.specs.laws.Both.{half_reaches}
use Rattle.tables.specs.laws.Inside.{stays_then}
use Rattle.tables.specs.laws.Figure9.{Going, going_none, going_within, going_entry, going_told, going_fallen, going_all, told_is, told-not}
use Rattle.tables.proofs.suffixes.suffixes.Goals as goal
use Rattle.tables.proofs.suffixes.suffixes.Goals.{else-g1-i-via-then-g1-i+else-suffix-i, else-g1-i-via-else-g1-i}
use borrow.Author.Tests.{lt-ltb, le-ltb}

-- what holds in a turn, with i as the page has it
turn : {x d₀ d : List ℕ} {i f g1 k : ℕ} → 0 < i → Going x d₀ i f g1 k d → Going x d₀ (i - 1 + 1) f g1 k d
turn {i = i} h w =
    let e : i - 1 + 1 ≡ i = omega arith in
    rw e w

pub loop-i-init : goal.loop-i-init
loop-i-init c =
    let p = c.args.pairs.now in
    let x = p.x.bytes.now in
    let w = c.set_suffix.ensures in
    let r = half_reaches (length x) p.room.now p.reaches in
    record {
      stays = w.stays;
      going = rw (w.firsts, c.len-last.ensures, c.len.ensures, c.len-g1.ensures) (going_none x (firsts p.room.now) (length x - 1) (omega arith) r.0);
      others = w.seconds;
    }

pub loop-i-preserved-then-suffix-i : goal.loop-i-preserved-then-suffix-i
loop-i-preserved-then-suffix-i c =
    let x = c.args.pairs.now.x.bytes.now in
    let v = c.loop-i in
    let above = c.if-g1-i.true in
    let w = turn c.loop-i-test.true v.invariant.going in
    let t = told_is x (v.i - 1) v.f v.g1 above (going_entry w above (rw c.len-last.ensures at c.suffix.ensures)) (lt-ltb _ _ c.if-suffix-i.true) in
    let s = c.set_suffix-then-suffix-i.ensures in
    record {
      stays = stays_then v.invariant.stays s.stays;
      going = rw s.firsts (going_told w t (going_entry w above (rw c.len-last.ensures at c.suffix-then-suffix-i.ensures)));
      others = s.seconds ∙ v.invariant.others;
    }

pub fall-fallen-requires : goal.fall-fallen-requires
fall-fallen-requires c = omega (arith, going_within c.loop-i.invariant.going, c.args.pairs.now.x.short)

pub loop-i-preserved : goal.loop-i-preserved
loop-i-preserved c =
    let x = c.args.pairs.now.x.bytes.now in
    let v = c.loop-i in
    let w = turn c.loop-i-test.true v.invariant.going in
    let t : told x (v.i - 1) v.f v.g1 ≡ false = elim c.else-g1-i.branch [
      | else-g1-i-via-then-g1-i+else-suffix-i b ↦ told_is x (v.i - 1) v.f v.g1 b.if-g1-i.true (going_entry w b.if-g1-i.true (rw c.len-last.ensures at b.suffix.ensures)) (le-ltb _ _ b.if-suffix-i.false)
      | else-g1-i-via-else-g1-i b ↦ told-not x (v.i - 1) v.f v.g1 b.if-g1-i.false
    ] in
    let f = c.fall-fallen.ensures in
    let s = c.set_suffix-else-g1-i.ensures in
    record {
      stays = stays_then v.invariant.stays s.stays;
      going = rw s.firsts (going_fallen w t (omega (arith, c.min-g1.ensures)) f.low f.count refl);
      others = s.seconds ∙ v.invariant.others;
    }

pub returns : goal.returns
returns c =
    let p = c.args.pairs.now in
    let x = p.x.bytes.now in
    let v = c.loop-i.invariant in
    let z : c.loop-i.i ≡ 0 = omega arith in
    let all = going_all (firsts p.room.now) (c.len-last.result - 1) (length x) (rw z at v.going) (omega arith) in
    record { stays = v.stays; table = record { written = all.0; others = v.others }; count = all.1; few = (going_within v.going).2 }
