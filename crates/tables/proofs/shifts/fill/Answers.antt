use Rattle.std.proofs.Common.{ℕ, ◌+◌, ◌-◌, ◌≤◌, ◌<◌, ◌≡◌, refl, sym, ap, ◌∙◌, arith, List, cond, length, set, eq-eqb, ne_eqb}
use Rattle.basics.specs.Lists.{at}
use Rattle.basics.specs.Rooms.{Begins}
use Rattle.basics.specs.laws.Rooms.{Filled}
use Rattle.tables.specs.Suffix.{suffix_at, suffix_table}
use Rattle.tables.specs.Both.{seconds}
use Rattle.tables.specs.laws.Suffix.{suffix_entry}
use Rattle.tables.specs.laws.Inside.{stays_none, stays_then}
use Rattle.tables.specs.laws.Figure11.{ends, match_at, match_none, match_more, match_all, prefixes_none, prefixes_next, prefixes_all}
use Rattle.tables.proofs.shifts.fill.Goals as goal
use Rattle.tables.proofs.shifts.fill.Goals.{then-suffix-m, else-suffix-m}

-- what is read is the suffix entry: the suffix table d stays as it was
reads : (x : List ℕ) {d d' : List ℕ} → Begins (suffix_table x) d → d' ≡ d → (i : ℕ) {r : ℕ} → r ≡ at d' i → i < length x → (r ≡ suffix_at x i) × (r ≤ i + 1)
reads x b e i q l = let k = suffix_entry x b i (q ∙ ap (λ (d : List ℕ). at d i) e) l in (k.0, omega (arith, k.1))

-- one store of the second loop
more : (x : List ℕ) (i m r : ℕ) {d₀ d : List ℕ} → m ≡ length x → i < m - 1 → (r ≡ suffix_at x i) × (r ≤ i + 1)
    → Filled (match_at x (length x - i)) d₀ (length x) d → Filled (match_at x (length x - (i + 1))) d₀ (length x) (set d (m - 1 - r) (m - 1 - i))
more x i m r {d₀} {d} e l k g =
    let u : length x - i ≡ m - 1 - i + 1 = omega arith in
    let v : length x - (i + 1) ≡ m - 1 - i = omega arith in
    rw v (match_more x i (m - 1 - i) (m - 1 - r) (omega arith) (omega arith) (omega arith) (rw u at g))

pub loop-s-init : goal.loop-s-init
loop-s-init c = let p = c.args.pairs.now in record { stays = stays_none; going = prefixes_none p.x.bytes.now (seconds p.room.now); others = refl }

pub loop-s-preserved : goal.loop-s-preserved
loop-s-preserved c =
    let x = c.args.pairs.now.x.bytes.now in
    let l = c.loop-s in
    let v = l.invariant in
    let i : ℕ = length x - 1 - l.s in
    let k = reads x c.requires v.others i (rw c.len-m.ensures at c.suffix.ensures) (omega arith) in
    let t : c.if-suffix-m.to ≡ cond (ends x l.s) l.s l.j = elim c.if-suffix-m.branch [
      | then-suffix-m w ↦ rw (eq-eqb (suffix_at x i) (length x - l.s) (omega arith)) w.to-is
      | else-suffix-m w ↦ rw (ne_eqb (suffix_at x i) (length x - l.s) (omega arith)) w.to-is
    ] in
    let n = c.spread.ensures in
    record {
      stays = stays_then v.stays n.stays;
      going = prefixes_next v.going (omega arith) t (record { is = n.written.written });
      others = n.written.others ∙ v.others;
    }

pub loop-i-init : goal.loop-i-init
loop-i-init c =
    let p = c.args.pairs.now in
    let x = p.x.bytes.now in
    let v = c.loop-s.invariant in
    let w = c.spread-2.ensures in
    let u : length x - 0 ≡ length x = omega arith in
    let q : c.len-m.result ≡ c.loop-s.s = omega arith in
    record {
      stays = stays_then v.stays w.stays;
      done = rw u (match_none x (prefixes_all v.going (sym q ∙ c.len-m.ensures) (record { is = rw q at w.written.written })));
      others = w.written.others ∙ v.others;
    }

pub overflow_sub-m-in-loop-i-2 : goal.overflow_sub-m-in-loop-i-2
overflow_sub-m-in-loop-i-2 c =
    omega (arith, reads c.args.pairs.now.x.bytes.now c.requires c.loop-i.invariant.others c.loop-i.i c.suffix-in-loop-i.ensures (omega arith))

pub loop-i-preserved : goal.loop-i-preserved
loop-i-preserved c =
    let p = c.args.pairs.now in
    let x = p.x.bytes.now in
    let l = c.loop-i in
    let v = l.invariant in
    let s = c.set_shift.ensures in
    let k = reads x c.requires v.others l.i c.suffix-in-loop-i.ensures (omega arith) in
    record {
      stays = stays_then v.stays s.stays;
      done = rw s.seconds (more x l.i c.len-m.result c.suffix-in-loop-i.result c.len-m.ensures c.loop-i-test.true k v.done);
      others = s.firsts ∙ v.others;
    }

pub returns : goal.returns
returns c =
    let x = c.args.pairs.now.x.bytes.now in
    let v = c.loop-i.invariant in
    let u : length x - c.loop-i.i ≡ 1 = omega arith in
    record { stays = v.stays; table = record { written = match_all x (rw u at v.done); others = v.others } }
