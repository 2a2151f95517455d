-- Each window tells the true number of trailing bytes that are equal; and the closest window, one window after another. Assumes nothing.
use Rattle.std.specs.Prelude.{◌≡◌, cond, List, [], ◌∷◌, ◌++◌, map, eqb, ltb}
use Rattle.std.proofs.Math.Path.{refl}
use Rattle.std.proofs.Common.{sym, ap, ◌∙◌, ⊎_elim, eq-or-lt_of_le, arith, eq-eqb, ne_eqb, le-ltb}
use Rattle.std.proofs.Math.Logic.{inl, inr}
use Prim.Native.Nat.{ℕ, zero, suc, ◌+◌, ◌-◌, ◌≤◌, ◌<◌, zero-le, max}
use Rattle.std.proofs.Math.ListN.{length}
use Rattle.basics.specs.laws.Tests.{bool_case, eqb-case, ltb-case}
use Rattle.basics.specs.laws.Endings.{longest_is}
use Rattle.scans.specs.declared.closeness.Closest.{Closest}
use Rattle.scans.specs.Trace.{End, matched, stopped, Pass, equal_by, Window, positions, visit}
use Rattle.scans.specs.Move.{move}
use Rattle.scans.specs.Plain.{plain_from, plain_pass, plain_scan}
use Rattle.scans.specs.Remember.{mem_scan}
use Rattle.scans.specs.Occurrences.{first_of}
use Rattle.scans.specs.Closeness.{ends_equal, trailing, Truly, closest, first_telling, closest_start}
use Rattle.scans.specs.inside.Closest.{closest_of, closer_by}
use Rattle.scans.specs.laws.Plain.{plain_step, plain_done}
use Rattle.scans.specs.laws.Remember.{mem_step, mem_done}
use Rattle.scans.specs.laws.Run.{run_le_right, run_agrees, run_stops}
use Rattle.scans.specs.laws.Ending.{equal_at, plain_all, plain_stops}
use Rattle.scans.specs.laws.Visits.{bare, by_visits, fits-case}

-- THE TRUE NUMBER
module _ (x y : List ℕ) (j : ℕ) where
  -- of a window in the stream: the run of equal bytes before its end
  pub trailing-run : j + length x ≤ length y → trailing x y j ≡ equal_at x y j (length x)
  unfolding trailing ends_equal
  trailing-run l =
      let m : ℕ = length x in
      let k : ℕ = equal_at x y j m in
      let h : k ≤ m = run_le_right y x (j + m) m in
      longest_is y (j + m) x m l (omega arith) m k (omega arith) (omega arith) h
      (λ t d u v p q. run_agrees y x (j + m) m t u v d (omega arith) (omega arith))
      (⊎_elim (λ (e : k ≡ m). inl e)
      (λ (g : k < m). inr (λ a. run_stops y x (j + m) m k (j + m - 1 - k) (m - 1 - k) refl (omega arith) (omega arith) (a (j + m - 1 - k) (m - 1 - k) (omega arith) (omega arith))))
      (eq-or-lt_of_le h))

  -- what the plain window's end tells
  stops : (k : ℕ) → equal_at x y j k < k → equal_by k (plain_from x y j k).end ≡ equal_at x y j k
  stops zero l = absurd (omega arith)
  stops (suc i) l =
      let k : ℕ = equal_at x y j (suc i) in
      ap (equal_by (suc i)) (plain_stops x y j i k refl (omega arith)) ∙ omega arith

  plain_tells : equal_by (length x) (plain_pass x y j).end ≡ equal_at x y j (length x)
  plain_tells =
      ⊎_elim (λ (e : equal_at x y j (length x) ≡ length x). ap (equal_by (length x)) (plain_all x y j (length x) e) ∙ sym e)
      (λ (l : equal_at x y j (length x) < length x). stops (length x) l)
      (eq-or-lt_of_le (run_le_right y x (j + length x) (length x)))

-- each window of the plain scan tells it
pub plain_true : (x y : List ℕ) (f j : ℕ) → Truly x y (plain_scan x y f j)
unfolding plain_scan
plain_true x y zero j = refl
plain_true x y (suc f) j =
    fits-case x y j _
    (λ l.
    let p : Pass = plain_pass x y j in
    let e : equal_by (length x) p.end ≡ trailing x y j = plain_tells x y j ∙ sym (trailing-run x y j l) in
    rw (plain_step x y f j l) (λ k. e k ∷ plain_true x y f (j + move x y j p.end) k))
    (λ l. rw (plain_done x y f j l))

-- A MATCH AND NONE. Of a trace that reports a position: the closest window has all m bytes equal, and the first such window is the first reported. Of one that
-- reports none: fewer are equal
pub record Reaching (m : ℕ) (ws : List Window) : Type 0 where
  pub most : closest ws ≤ m
  pub hit : 1 ≤ length (positions ws) → (closest ws ≡ m) × (first_telling m ws ≡ first_of (positions ws))
  pub none : length (positions ws) ≡ 0 → closest ws < m

reaching_none : {m : ℕ} → 1 ≤ m → Reaching m []
unfolding closest positions
reaching_none l = record { most = omega arith; hit = λ h. absurd (omega arith); none = λ z. omega arith }

reaching_more : {m : ℕ} {ws : List Window} (j c : ℕ) (e : End) → 1 ≤ m → Reaching m ws → Reaching m (record { start = j; end = e; comps = c; equal = equal_by m e } ∷ ws)
unfolding closest positions first_telling
reaching_more {m} {ws} j c matched l r =
    record { most = omega (arith, r.most); hit = λ h. (omega (arith, r.most), rw (eq-eqb m m refl)); none = λ z. absurd (omega arith) }
reaching_more {m} {ws} j c (stopped i) l r =
    record {
      most = omega (arith, r.most);
      hit = λ h. let q = r.hit h in (omega (arith, q.0), rw (ne_eqb (m - 1 - i) m (λ e. omega arith)) q.1);
      none = λ z. omega (arith, r.none z);
    }

pub plain_reaches : (x y : List ℕ) → 1 ≤ length x → (f j : ℕ) → Reaching (length x) (plain_scan x y f j)
unfolding plain_scan
plain_reaches x y some zero j = reaching_none some
plain_reaches x y some (suc f) j =
    fits-case x y j _
    (λ l.
    let p : Pass = plain_pass x y j in
    rw (plain_step x y f j l) (reaching_more j p.comps p.end some (plain_reaches x y some f (j + move x y j p.end))))
    (λ l. rw (plain_done x y f j l) (reaching_none some))

-- IT HANGS ON THE VISITS ALONE: what the windows tell, the truth at their starts, and the closest
numbers-bare : (f : ℕ → ℕ → ℕ) (ws : List Window) → map (λ (w : Window). f w.start w.equal) ws ≡ map (λ (w : Window). f w.start w.equal) (bare (map visit ws))
numbers-bare f [] = refl
numbers-bare f (w ∷ ws) = ap (λ (l : List ℕ). f w.start w.equal ∷ l) (numbers-bare f ws)

pub same_true : (x y : List ℕ) (vs ws : List Window) → map visit vs ≡ map visit ws → Truly x y ws → Truly x y vs
same_true x y vs ws e t =
    let told = by_visits (map (λ (w : Window). w.equal)) (numbers-bare (λ j k. k)) vs ws e in
    let truth = by_visits (map (λ (w : Window). trailing x y w.start)) (numbers-bare (λ j k. trailing x y j)) vs ws e in
    told ∙ t ∙ sym truth

closest-bare : (ws : List Window) → closest ws ≡ closest (bare (map visit ws))
unfolding closest
closest-bare [] = refl
closest-bare (w ∷ ws) = ap (max w.equal) (closest-bare ws)

first_bare : (k : ℕ) (ws : List Window) → first_telling k ws ≡ first_telling k (bare (map visit ws))
unfolding first_telling
first_bare k [] = refl
first_bare k (w ∷ ws) = ap (cond (eqb w.equal k) w.start) (first_bare k ws)

at_bare : (ws : List Window) → closest_start ws ≡ closest_start (bare (map visit ws))
at_bare ws = first_bare (closest ws) ws ∙ ap (λ (k : ℕ). first_telling k (bare (map visit ws))) (closest-bare ws)

pub same-closest : (vs ws : List Window) → map visit vs ≡ map visit ws → (closest vs ≡ closest ws) × (closest_start vs ≡ closest_start ws)
same-closest vs ws e = (by_visits closest closest-bare vs ws e, by_visits closest_start at_bare vs ws e)

-- ONE WINDOW MORE
closest-more : (ws : List Window) (w : Window) → closest (ws ++ (w ∷ [])) ≡ max (closest ws) w.equal
unfolding closest
closest-more [] w = omega arith
closest-more (v ∷ ws) w = omega (arith, closest-more ws w)

-- closer than all before it
first_new : (ws : List Window) (w : Window) → closest ws < w.equal → first_telling w.equal (ws ++ (w ∷ [])) ≡ w.start
unfolding closest first_telling
first_new [] w l = rw (eq-eqb w.equal w.equal refl)
first_new (v ∷ ws) w l = rw (ne_eqb v.equal w.equal (λ e. omega arith)) (first_new ws w (omega arith))

-- no closer than one before it
first_old : (v : Window) (ws : List Window) (w : Window) (k : ℕ) → closest (v ∷ ws) ≡ k → first_telling k ((v ∷ ws) ++ (w ∷ [])) ≡ first_telling k (v ∷ ws)
unfolding closest first_telling
first_old v [] w k e =
    eqb-case v.equal k (λ t. cond t v.start (first_telling k (w ∷ [])) ≡ cond t v.start 0) (λ q. refl) (λ n. absurd (n (omega arith)))
first_old v (u ∷ ws) w k e =
    eqb-case v.equal k (λ t. cond t v.start (first_telling k ((u ∷ ws) ++ (w ∷ []))) ≡ cond t v.start (first_telling k (u ∷ ws)))
    (λ q. refl)
    (λ n. first_old u ws w k (omega arith))

-- where the first window starts
abbrev pub first_start : List Window → ℕ
first_start [] = 0
first_start (w ∷ ws) = w.start

-- of a scan from 0 on
pub plain_start : (x y : List ℕ) (f : ℕ) → first_start (plain_scan x y f 0) ≡ 0
unfolding plain_scan
plain_start x y zero = refl
plain_start x y (suc f) = fits-case x y 0 _ (λ l. rw (plain_step x y f 0 l)) (λ l. rw (plain_done x y f 0 l))

pub mem_start : (x y : List ℕ) (R : ℕ → ℕ) (f : ℕ) → first_start (mem_scan x y R f 0) ≡ 0
unfolding mem_scan
mem_start x y R zero = refl
mem_start x y R (suc f) = fits-case x y 0 _ (λ l. rw (mem_step x y f 0 R l)) (λ l. rw (mem_done x y f 0 R l))

at_more : (ws : List Window) (w : Window) → first_start (ws ++ (w ∷ [])) ≡ 0 → w.equal ≤ closest ws → closest_start (ws ++ (w ∷ [])) ≡ closest_start ws
unfolding closest first_telling
at_more [] w z l = let e : w.equal ≡ 0 = omega arith in rw (e, z)
at_more (v ∷ ws) w z l =
    let e : closest ((v ∷ ws) ++ (w ∷ [])) ≡ closest (v ∷ ws) = omega (arith, closest-more (v ∷ ws) w) in
    ap (λ (k : ℕ). first_telling k ((v ∷ ws) ++ (w ∷ []))) e ∙ first_old v ws w (closest (v ∷ ws)) refl

-- The first window starts at 0: where it has nothing equal, it is the closest all the same.
pub closest_then : (ws : List Window) (w : Window) → first_start (ws ++ (w ∷ [])) ≡ 0 → closest_of (ws ++ (w ∷ [])) ≡ closer_by (closest_of ws) w.equal w.start
closest_then ws w z =
    ltb-case (closest ws) w.equal (λ t. closest_of (ws ++ (w ∷ [])) ≡ cond t (record { equal = w.equal; at = w.start }) (closest_of ws))
    (λ l.
    let e : closest (ws ++ (w ∷ [])) ≡ w.equal = omega (arith, closest-more ws w) in
    let a : closest_start (ws ++ (w ∷ [])) ≡ w.start = rw e (first_new ws w l) in
    λ k. record { equal = e k; at = a k })
    (λ l.
    let e : closest (ws ++ (w ∷ [])) ≡ closest ws = omega (arith, closest-more ws w) in
    let a : closest_start (ws ++ (w ∷ [])) ≡ closest_start ws = at_more ws w z l in
    λ k. record { equal = e k; at = a k })

-- at most m bytes are equal
pub equal_le : (m : ℕ) (e : End) → equal_by m e ≤ m
equal_le m matched = omega arith
equal_le m (stopped i) = omega arith

pub closer_le : (b : Closest) (k j m : ℕ) → b.equal ≤ m → k ≤ m → (closer_by b k j).equal ≤ m
closer_le b k j m l u = bool_case (ltb b.equal k) (λ t. (cond t (record { equal = k; at = j }) b).equal ≤ m) (λ e. u) (λ e. l)

-- nothing equal: no closer
pub closer_none : (b : Closest) (j : ℕ) → closer_by b 0 j ≡ b
closer_none b j = rw (le-ltb b.equal 0 zero-le)
