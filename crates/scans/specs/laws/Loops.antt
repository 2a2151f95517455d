-- What the two loops keep from window to window. Assumes nothing.
use Rattle.std.specs.Prelude.{◌≡◌, refl, List, [], ◌++◌, ℕ, zero, suc, ◌+◌, ◌*◌, ◌≤◌, ◌<◌, length, replicate, drop}
use Rattle.std.proofs.Common.{ap, ◌∙◌, zero-le, arith, length-append}
use Rattle.basics.specs.Rooms.{front}
use Rattle.scans.specs.declared.memory.Place.{Place}
use Rattle.scans.specs.declared.closeness.Closest.{Closest}
use Rattle.scans.specs.Trace.{End, matched, stopped, Pass, equal_by, found}
use Rattle.scans.specs.Move.{move}
use Rattle.scans.specs.Plain.{plain_pass, plain_scan, plain}
use Rattle.scans.specs.Remember.{mem_pass, after, mem_scan, remembering}
use Rattle.scans.specs.inside.Slots.{recalled, Stands}
use Rattle.scans.specs.inside.Ready.{Sizes}
use Rattle.scans.specs.inside.Window.{stop_of, end_of, Seen, seen_of, Gone, passed_of, Memory, Quiet, Kept}
use Rattle.scans.specs.laws.Plain.{plain_comps, plain_step}
use Rattle.scans.specs.laws.Remember.{mem_ext, mem_comps, mem_step}
use Rattle.scans.specs.laws.Move.{move_pos, move_le}
use Rattle.scans.specs.inside.Closest.{closer_by}
use Rattle.scans.specs.laws.Closeness.{plain_start, mem_start, equal_le, closer_le}
use Rattle.scans.specs.laws.Going.{none, Going, going_none, going_more}
use Rattle.scans.specs.laws.Hits.{Noted}
use Rattle.scans.specs.laws.Slots.{place_first, place_at, place_again, cleared}

-- the numbers stay in range: a window moves by at least 1, compares at most m times, reports at most once and has at most m bytes equal
pub record Counted (x y : List ℕ) (j : ℕ) (ps : List ℕ) (w c : ℕ) (b : Closest) : Type 0 where
  pub place : j ≤ length y + length x
  pub windows : w ≤ j
  pub hits : length ps ≤ w
  pub count : c ≤ 4096 * w
  pub closest : b.equal ≤ length x

pub counted_none : (x y : List ℕ) → Counted x y 0 [] 0 0 none
counted_none x y = record { place = zero-le; windows = zero-le; hits = zero-le; count = zero-le; closest = zero-le }

found_le : (j : ℕ) (e : End) → length (found j e []) ≤ 1
found_le j matched = omega arith
found_le j (stopped i) = omega arith

pub counted_next : {x y : List ℕ} {j : ℕ} {ps : List ℕ} {w c : ℕ} {b b' : Closest} (e : End) → Sizes x y → Counted x y j ps w c b → j + length x ≤ length y → (s k : ℕ)
    → s ≡ move x y j e → k ≤ length x → b' ≡ closer_by b (equal_by (length x) e) j → Counted x y (j + s) (ps ++ found j e []) (w + 1) (c + k) b'
counted_next {x} {y} {j} {ps} {b = b} e z g l s k q u n =
    record {
      place = omega (arith, move_le x y j e z.some);
      windows = omega (arith, g.windows, move_pos x y j e);
      hits = omega (arith, g.hits, length-append ps (found j e []), found_le j e);
      count = omega (arith, g.count, z.short);
      closest = rw n (closer_le b (equal_by (length x) e) j (length x) g.closest (equal_le (length x) e));
    }

-- the plain scan at its window j: the positions ps are found, w windows and c comparisons are made, and b is the closest window
pub record PlainAt (x y : List ℕ) (j : ℕ) (ps : List ℕ) (w c : ℕ) (b : Closest) : Type 0 where
  pub counted : Counted x y j ps w c b
  pub fuel : ℕ
  pub enough : length y < fuel + j
  pub going : Going (plain x y) (plain_scan x y fuel j) ps w c b

pub plain_first : (x y : List ℕ) → PlainAt x y 0 [] 0 0 none
unfolding plain
plain_first x y = record { counted = counted_none x y; fuel = suc (length y); enough = omega arith; going = going_none (plain x y) (plain_start x y (suc (length y))) }

-- what a window function gives: its end
end_stop : (e : End) → end_of (stop_of e) ≡ e
end_stop matched = refl
end_stop (stopped i) = refl

seen_end : (p : Pass) (c : ℕ) {r : Seen} → r ≡ seen_of p c → end_of r.stop ≡ p.end
seen_end p c q = ap (λ (r : Seen). end_of r.stop) q ∙ end_stop p.end

pub plain-next : {x y : List ℕ} {j : ℕ} {ps : List ℕ} {w c : ℕ} {b b' : Closest} {r : Seen} {s : ℕ} → Sizes x y → PlainAt x y j ps w c b → j + length x ≤ length y
    → r ≡ seen_of (plain_pass x y j) c → s ≡ move x y j (end_of r.stop) → b' ≡ closer_by b (equal_by (length x) (end_of r.stop)) j
    → PlainAt x y (j + s) (ps ++ found j (end_of r.stop) []) (w + 1) r.count b'
plain-next {x} {y} {j} {ps} {w} {c} {b} {b'} {r} {s} z g l q v near = rw e (go g.fuel g.enough g.going)
  where
    p : Pass
    p = plain_pass x y j

    e : end_of r.stop ≡ p.end
    e = seen_end p c q

    t : s ≡ move x y j p.end
    t = rw e at v

    k : r.count ≡ c + p.comps
    k = ap (λ (r : Seen). r.count) q

    n : b' ≡ closer_by b (equal_by (length x) p.end) j
    n = rw e at near

    go : (f : ℕ) → length y < f + j → Going (plain x y) (plain_scan x y f j) ps w c b → PlainAt x y (j + s) (ps ++ found j p.end []) (w + 1) r.count b'
    go zero u o = absurd (omega arith)
    go (suc f) u o =
        record {
          counted = rw k (counted_next p.end z g.counted l s p.comps t (plain_comps x y j (length x)) n);
          fuel = f;
          enough = omega (arith, t, move_pos x y j p.end);
          going = rw t (going_more (length x) j p o (plain_step x y f j l) k n);
        }

-- THE PLAIN LOOP'S INVARIANT, with the position room
pub record PlainLoop (x y d₀ d : List ℕ) (j h w c : ℕ) (b : Closest) : Type 0 where
  pub ps : List ℕ
  pub at : PlainAt x y j ps w c b
  pub noted : Noted 1 ps d₀ d h

-- The remembering scan at its window p: the positions ps are found, w windows and c comparisons are made, b is the closest window, and the memory room is mem, which says what R says from the window on
pub record MemAt (x y mem₀ mem : List ℕ) (p : Place) (top : ℕ) (ps : List ℕ) (w c : ℕ) (b : Closest) : Type 0 where
  pub counted : Counted x y p.at ps w c b
  pub place : Stands (length x) p.at p
  pub under : top < p.at + length x
  pub room : length mem ≡ length mem₀
  pub rest : drop (length x) mem ≡ drop (length x) mem₀
  pub R : ℕ → ℕ
  pub fuel : ℕ
  pub enough : length y < fuel + p.at
  pub memory : Memory (length x) mem p.at top R
  pub going : Going (remembering x y) (mem_scan x y R fuel p.at) ps w c b

pub mem_first : (x y mem : List ℕ) → Sizes x y → (t : List ℕ) → mem ≡ front (replicate (length x) 0) t → MemAt x y mem mem (record { at = 0; slot = 0 }) 0 [] 0 0 none
unfolding remembering
mem_first x y mem z t e =
    record {
      counted = counted_none x y;
      place = place_first (length x);
      under = omega (arith, z.some);
      room = refl;
      rest = refl;
      R = λ h. 0;
      fuel = suc (length y);
      enough = omega arith;
      memory = cleared (length x) mem t z.some e;
      going = going_none (remembering x y) (mem_start x y (λ h. 0) (suc (length y)));
    }

pub mem_quiet : {m : ℕ} {mem : List ℕ} {j top : ℕ} {R : ℕ → ℕ} → Memory m mem j top R → top < j + m → Quiet m mem j top
mem_quiet g u = record { under = omega arith; quiet = λ h l k. g.says h l ∙ g.quiet h k }

memory_later : {m : ℕ} {mem : List ℕ} {j top : ℕ} {R : ℕ → ℕ} (s : ℕ) → Memory m mem j top R → Memory m mem (j + s) top R
memory_later s g = record { says = λ h l. g.says h (omega arith); quiet = g.quiet }

pub mem_next : {x y mem₀ mem mem' : List ℕ} {p p' : Place} {top top' : ℕ} {ps : List ℕ} {w c : ℕ} {b b' : Closest} {r : Gone} {s : ℕ} → Sizes x y → MemAt x y mem₀ mem p top ps w c b → p.at + length x ≤ length y
    → r ≡ passed_of (mem_pass x y (recalled mem (length x)) p.at) c → s ≡ move x y p.at (end_of r.stop)
    → Kept (length x) mem p.at top r.kept mem' top' → length mem' ≡ length mem → Stands (length x) (p.at + s) p' → b' ≡ closer_by b (equal_by (length x) (end_of r.stop)) p.at
    → MemAt x y mem₀ mem' p' top' (ps ++ found p.at (end_of r.stop) []) (w + 1) r.count b'
mem_next {x} {y} {mem₀} {mem} {mem'} {p} {p'} {top} {top'} {ps} {w} {c} {b} {b'} {r} {s} z g l q v kept len on near = rw e (go g.fuel g.enough g.going)
  where
    j : ℕ
    j = p.at

    P : Pass
    P = mem_pass x y g.R j

    q' : r ≡ passed_of P c
    q' = q ∙ ap (λ (p : Pass). passed_of p c) (mem_ext x y (recalled mem (length x)) j g.R g.memory.says (length x) (length x))

    e : end_of r.stop ≡ P.end
    e = ap (λ (r : Gone). end_of r.stop) q' ∙ end_stop P.end

    t : s ≡ move x y j P.end
    t = rw e at v

    k : r.count ≡ c + P.comps
    k = ap (λ (r : Gone). r.count) q'

    m : r.kept ≡ P.kept
    m = ap (λ (r : Gone). r.kept) q'

    o : p'.at ≡ j + s
    o = place_at on

    n : b' ≡ closer_by b (equal_by (length x) P.end) j
    n = rw e at near

    go : (f : ℕ) → length y < f + j → Going (remembering x y) (mem_scan x y g.R f j) ps w c b
        → MemAt x y mem₀ mem' p' top' (ps ++ found j P.end []) (w + 1) r.count b'
    go zero u i = absurd (omega arith)
    go (suc f) u i =
        record {
          counted = rw (k, o) (counted_next P.end z g.counted l s P.comps t (mem_comps x y g.R j (length x) (length x)) n);
          place = place_again on;
          under = omega (arith, o, t, move_pos x y j P.end, kept.under);
          room = len ∙ g.room;
          rest = kept.rest ∙ g.rest;
          R = after x y g.R j;
          fuel = f;
          enough = omega (arith, o, t, move_pos x y j P.end);
          memory = rw (o, ← m) (memory_later s (kept.memory g.R g.memory));
          going = rw (o, t) (going_more (length x) j P i (mem_step x y f j g.R l) k n);
        }

-- THE REMEMBERING LOOP'S INVARIANT, with the position room
pub record MemLoop (x y d₀ d mem₀ mem : List ℕ) (step : ℕ) (p : Place) (top h w c : ℕ) (b : Closest) : Type 0 where
  pub ps : List ℕ
  pub at : MemAt x y mem₀ mem p top ps w c b
  pub noted : Noted step ps d₀ d h
