-- Demands 2 and 3, and how close a scan comes: theorems over the definitions, and what they say of the answers of the calls. Assumes nothing.
use Rattle.std.specs.Prelude.{◌≡◌, refl, List, map, ℕ, zero, suc, ◌+◌, ◌-◌, ◌*◌, ◌≤◌, ◌<◌, length}
use Rattle.std.proofs.Common.{sym, ap, ◌∙◌, zero-le, arith}
use Rattle.std.proofs.lemmas.List.{length-map}
use Rattle.scans.specs.Trace.{Window, comparisons, positions, visit}
use Rattle.scans.specs.Plain.{plain_scan, plain}
use Rattle.scans.specs.Remember.{remembering}
use Rattle.scans.specs.Occurrences.{occurrences, first_of}
use Rattle.scans.specs.Closeness.{Truly, closest, closest_start}
use Rattle.scans.specs.Refusal.{refusal_of}
use Rattle.scans.specs.Promise.{Answer, answer_of, reported, Plainly, Rememberingly}
use Rattle.scans.specs.laws.Refusal.{accepted}
use Rattle.scans.specs.laws.Ending.{Sound}
use Rattle.scans.specs.laws.Free.{free_le}
use Rattle.scans.specs.laws.Visits.{Fresh, same_visits, no_more, bounded}
use Rattle.scans.specs.laws.Occurrences.{all_found, same-positions}
use Rattle.scans.specs.laws.Closeness.{plain_true, same_true, same-closest, plain_reaches}

-- DEMAND 3. For 1 ≤ m ≤ n the remembering scan visits the same windows in the same order as the plain one, each with the same end and the same number of equal
-- bytes, never makes more comparisons, and at most 2n − m + 1.
pub record Demand3 (x y : List ℕ) : Type 0 where
  pub same_windows : map visit (remembering x y) ≡ map visit (plain x y)
  pub never_more : comparisons (remembering x y) ≤ comparisons (plain x y)
  pub bound : comparisons (remembering x y) ≤ 2 * length y - length x + 1

-- the first two parts hold for every stream
visits : (x y : List ℕ) → 1 ≤ length x → map visit (remembering x y) ≡ map visit (plain x y)
unfolding remembering plain
visits x y some = same_visits x y some (suc (length y)) 0 (λ e. 0) (λ e. zero-le) (λ e l. refl)

pub demand3 : (x y : List ℕ) → 1 ≤ length x → length x ≤ length y → Demand3 x y
unfolding remembering plain
demand3 x y some fits =
    let sound : Sound x y (λ e. 0) = λ e. zero-le in
    let fresh : Fresh x 0 (λ e. 0) = λ e l. refl in
    record {
      same_windows = visits x y some;
      never_more = no_more x y some (suc (length y)) 0 (λ e. 0) sound fresh;
      bound = omega (arith, bounded x y some (suc (length y)) 0 (λ e. 0) sound fresh, free_le 0 (λ e. 0) (0 + length x) 0);
    }

-- DEMAND 2, of the positions: both scans report all the places where the probe equals the stream, overlapping ones too, ascending.
pub record Demand2 (x y : List ℕ) : Type 0 where
  pub plainly : positions (plain x y) ≡ occurrences x y
  pub remembered : positions (remembering x y) ≡ occurrences x y

pub demand2 : (x y : List ℕ) → 1 ≤ length x → Demand2 x y
demand2 x y some =
    record { plainly = all_found x y some; remembered = same-positions (remembering x y) (plain x y) (visits x y some) ∙ all_found x y some }

-- REQUEST FOUR. Each window of either scan tells the true number of trailing bytes that equal the stream there, also where it stops without a comparison; and both
-- scans come equally close, at the same window.
pub record Close (x y : List ℕ) : Type 0 where
  pub plainly : Truly x y (plain x y)
  pub remembered : Truly x y (remembering x y)
  pub same-closest : closest (remembering x y) ≡ closest (plain x y)
  pub same_place : closest_start (remembering x y) ≡ closest_start (plain x y)

pub close : (x y : List ℕ) → 1 ≤ length x → Close x y
unfolding plain
close x y some =
    let t : Truly x y (plain x y) = plain_true x y (suc (length y)) 0 in
    let v = visits x y some in
    let c = same-closest (remembering x y) (plain x y) v in
    record { plainly = t; remembered = same_true x y (remembering x y) (plain x y) v t; same-closest = c.0; same_place = c.1 }

-- Where the probe occurs, all m bytes are equal, and the window is the first occurrence; where it does not, fewer are.
pub record Reaches (x y : List ℕ) : Type 0 where
  pub hit : 1 ≤ length (occurrences x y) → (closest (plain x y) ≡ length x) × (closest_start (plain x y) ≡ first_of (occurrences x y))
  pub none : length (occurrences x y) ≡ 0 → closest (plain x y) < length x

pub reaches : (x y : List ℕ) → 1 ≤ length x → Reaches x y
unfolding plain
reaches x y some =
    let r = plain_reaches x y some (suc (length y)) 0 in
    let p : positions (plain_scan x y (suc (length y)) 0) ≡ occurrences x y = all_found x y some in
    record {
      hit = λ h. let q = r.hit (rw p h) in (q.0, rw q.0 q.1 ∙ ap first_of p);
      none = λ z. r.none (rw p z);
    }

-- OF THE CALLS. An accepted search answers the numbers of its trace and reports its positions; neither names a work room, what it held or how it is laid out.
pub record Answered (ws : List Window) (d : List ℕ) (r : Answer) (d' : List ℕ) : Type 0 where
  pub numbers : r ≡ answer_of 0 ws (length d)
  pub places : d' ≡ reported (positions ws) d

-- an answer without a refusal has the numbers of its trace
taken : {r : Answer} (k : ℕ) (ws : List Window) (n : ℕ) → r ≡ answer_of k ws n → r.refusal ≡ 0 → (k ≡ 0) × (r ≡ answer_of 0 ws n)
unfolding answer_of
taken k ws n e z =
    let q : k ≡ 0 = sym (shown k) ∙ ap (λ (r : Answer). r.refusal) (sym e) ∙ z in
    (q, e ∙ ap (λ (k : ℕ). answer_of k ws n) q)
  where
    shown : (k : ℕ) → (answer_of k ws n).refusal ≡ k
    shown zero = refl
    shown (suc k) = refl

pub plain_answers : {x y t d : List ℕ} {r : Answer} {t' d' : List ℕ} → Plainly x y t d r t' d' → r.refusal ≡ 0 → Answered (plain x y) d r d'
plain_answers {x} {y} {t} {d} u z =
    record {
      numbers = (taken (refusal_of (length x) (length y) (length t) (length x)) (plain x y) (length d) u.answer z).1;
      places = rw z at u.places;
    }

pub remember_answers : {x y t e d : List ℕ} {r : Answer} {t' e' d' : List ℕ} → Rememberingly x y t e d r t' e' d' → r.refusal ≡ 0 → Answered (remembering x y) d r d'
remember_answers {x} {y} {t} {e} {d} u z =
    record {
      numbers = (taken (refusal_of (length x) (length y) (length t) (length e)) (remembering x y) (length d) u.answer z).1;
      places = rw z at u.places;
    }

-- What two accepted searches of the same stream, at least as long as the probe, tell of each other
pub record Agreed (x y d : List ℕ) (p q : Answer) (d₁ d₂ : List ℕ) : Type 0 where
  pub total : q.occurrences ≡ length (occurrences x y)
  pub same_total : p.occurrences ≡ q.occurrences
  pub places : d₂ ≡ reported (occurrences x y) d
  pub same_places : d₁ ≡ d₂
  pub same_windows : q.windows ≡ p.windows
  pub same-closest : q.closest ≡ p.closest
  pub same_place : q.closest_at ≡ p.closest_at
  pub hit : 1 ≤ q.occurrences → (q.closest ≡ length x) × (q.closest_at ≡ first_of (occurrences x y))
  pub none : q.occurrences ≡ 0 → q.closest < length x
  pub never_more : q.comparisons ≤ p.comparisons
  pub bound : q.comparisons ≤ 2 * length y - length x + 1

pub agreed : {x y t e d : List ℕ} {p q : Answer} {t₁ d₁ t₂ e₂ d₂ : List ℕ} → Plainly x y t d p t₁ d₁ → Rememberingly x y t e d q t₂ e₂ d₂ → p.refusal ≡ 0
    → q.refusal ≡ 0 → length x ≤ length y → Agreed x y d p q d₁ d₂
unfolding answer_of
agreed {x} {y} {t} {e} {d} {p} {q} {t₁} {d₁} {t₂} {e₂} {d₂} u v zp zq fits =
    let a = plain_answers u zp in
    let b = remember_answers v zq in
    let k = (taken (refusal_of (length x) (length y) (length t) (length x)) (plain x y) (length d) u.answer zp).0 in
    let some : 1 ≤ length x = (accepted (length x) (length y) (length t) (length x) refl k).some in
    let D : Demand3 x y = demand3 x y some fits in
    let F : Demand2 x y = demand2 x y some in
    let C : Close x y = close x y some in
    let w : length (remembering x y) ≡ length (plain x y) =
    sym (length-map (remembering x y) visit) ∙ ap length D.same_windows ∙ length-map (plain x y) visit in
    let P : d₁ ≡ reported (occurrences x y) d = a.places ∙ ap (λ (l : List ℕ). reported l d) F.plainly in
    let Q : d₂ ≡ reported (occurrences x y) d = b.places ∙ ap (λ (l : List ℕ). reported l d) F.remembered in
    let total : q.occurrences ≡ length (occurrences x y) = ap (λ (r : Answer). r.occurrences) b.numbers ∙ ap length F.remembered in
    let R : Reaches x y = reaches x y some in
    let near : q.closest ≡ closest (plain x y) = ap (λ (r : Answer). r.closest) b.numbers ∙ C.same-closest in
    let place : q.closest_at ≡ closest_start (plain x y) = ap (λ (r : Answer). r.closest_at) b.numbers ∙ C.same_place in
    record {
      total = total;
      same_total = ap (λ (r : Answer). r.occurrences) a.numbers ∙ ap length F.plainly ∙ sym total;
      places = Q;
      same_places = P ∙ sym Q;
      same_windows = ap (λ (r : Answer). r.windows) b.numbers ∙ w ∙ sym (ap (λ (r : Answer). r.windows) a.numbers);
      same-closest = near ∙ sym (ap (λ (r : Answer). r.closest) a.numbers);
      same_place = place ∙ sym (ap (λ (r : Answer). r.closest_at) a.numbers);
      hit = λ h. let g = R.hit (rw total at h) in (near ∙ g.0, place ∙ g.1);
      none = λ z. rw near (R.none (rw total at z));
      never_more = omega (arith, D.never_more, ap (λ (r : Answer). r.comparisons) a.numbers, ap (λ (r : Answer). r.comparisons) b.numbers);
      bound = omega (arith, D.bound, ap (λ (r : Answer). r.comparisons) b.numbers);
    }
