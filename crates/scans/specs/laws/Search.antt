-- From what a search gives to what its call promises. Assumes nothing.
use Rattle.std.specs.Prelude.{◌≡◌, refl, cond, eqb, List, [], ◌∷◌, ℕ, zero, suc, ◌*◌, ◌≤◌, ◌<◌, length, replicate, Option, Some, None, Result, Ok, Err, IfOk}
use Rattle.std.proofs.Common.{sym, ap, subst, ◌∙◌, arith}
use Rattle.std.proofs.lemmas.List.{length-replicate}
use Rattle.std.proofs.lemmas.Bool.{ne_eqb}
use Rattle.basics.specs.declared.refusal.Refusal.{Refusal}
use Rattle.basics.specs.Refusal.{number_of, refusal_seen}
use Rattle.basics.specs.laws.Refusal.{number_above, number_same}
use Rattle.basics.specs.Lists.{at}
use Rattle.basics.specs.Rooms.{front, room_after}
use Rattle.basics.specs.laws.Rooms.{Beyond, room_kept, begins_front, beyond_front}
use Rattle.tables.specs.Both.{both_tables}
use Rattle.tables.specs.Occurrence.{occurrence_table}
use Rattle.tables.specs.Promise.{Written, Occurrences, occurrences_seen, occurrence_of}
use Rattle.tables.specs.laws.Refusal.{refuses_none}
use Rattle.tables.specs.laws.Occurrence.{occurrence_by}
use Rattle.tables.specs.laws.Both.{length-both_tables}
use Rattle.scans.specs.declared.Answer.{Answer as Six}
use Rattle.scans.specs.declared.Tally.{Tally as Places}
use Rattle.scans.specs.declared.loops.Run.{Run}
use Rattle.scans.specs.Trace.{Window, positions}
use Rattle.scans.specs.Plain.{plain}
use Rattle.scans.specs.Remember.{remembering}
use Rattle.scans.specs.Occurrences.{occurrences, multiples, first_of}
use Rattle.scans.specs.Refusal.{refusal_of}
use Rattle.scans.specs.Promise.{Tally, answer_seen, tally_seen, answer_of, tally_of, reported, reported_after, Plainly, Rememberingly, Aligning}
use Rattle.scans.specs.Demands.{demand2}
use Rattle.scans.specs.inside.Ready.{Ready}
use Rattle.scans.specs.inside.Hits.{places_of, run_of}
use Rattle.scans.specs.inside.Search.{answer_by, tally_by, Searching, Preparing}
use Rattle.scans.specs.laws.Hits.{multiples_one, reported_first}
use Rattle.scans.specs.laws.Refusal.{Accepted, accepted, accepts}
use Rattle.scans.specs.laws.Steps.{multiples_few, multiples_near}

-- WHAT IS ANSWERED, by the cause
answer_of_run : (ws : List Window) (n : ℕ) {run : Run} → run ≡ run_of 1 ws → answer_seen (Ok (answer_by run n)) ≡ answer_of 0 ws n
unfolding answer_of
answer_of_run ws n e = ap (λ (run : Run). answer_seen (Ok (answer_by run n))) e ∙ rw (multiples_one (positions ws))

answer_refused : (k : ℕ) (ws : List Window) (n : ℕ) → 0 < k
    → record { refusal = k; occurrences = 0; written = 0; windows = 0; comparisons = 0; closest = 0; closest_at = 0 } ≡ answer_of k ws n
unfolding answer_of
answer_refused zero ws n l = absurd (omega arith)
answer_refused (suc k) ws n l = refl

-- where nothing is noted, 0 stands in the room of one entry
tally_of_places : (ps : List ℕ) → tally_seen (Ok (cond (eqb (length ps) 0) None (Some (record { number = length ps; first = first_of ps })))) ≡ tally_of 0 ps
unfolding tally_of
tally_of_places [] = refl
tally_of_places (j ∷ ps) = rw (ne_eqb (length (j ∷ ps)) 0 (λ e. omega arith)) refl

tally_of_run : (d : ℕ) (ws : List Window) {run : Run} {r : List ℕ} → run ≡ run_of d ws → r ≡ reported (places_of d ws) (0 ∷ [])
    → tally_seen (Ok (tally_by run (at r 0))) ≡ tally_of 0 (places_of d ws)
tally_of_run d ws {run} {r} e p =
    let f : at r 0 ≡ first_of (places_of d ws) = ap (λ (r : List ℕ). at r 0) p ∙ reported_first (places_of d ws) in
    rw (e, f) (tally_of_places (places_of d ws))

tally_refused : (k : ℕ) (ps : List ℕ) → 0 < k → record { refusal = k; number = 0; first = 0 } ≡ tally_of k ps
unfolding tally_of
tally_refused zero ps l = absurd (omega arith)
tally_refused (suc k) ps l = refl

-- A REFUSAL LEAVES THE ROOMS
no_zero : (f : Refusal) → number_of f ≡ 0 → ⊥
no_zero f e = omega (arith, number_above f)

pub reported_kept : (k : ℕ) (ps d : List ℕ) → (k ≡ 0 → ⊥) → reported_after k ps d ≡ d
reported_kept zero ps d h = absurd (h refl)
reported_kept (suc k) ps d h = refl

kept : (f : Refusal) (t d : List ℕ) → d ≡ room_after (number_of f) t d
kept f t d = sym (room_kept (number_of f) t d (no_zero f))

kept_places : (f : Refusal) (ps d : List ℕ) → d ≡ reported_after (number_of f) ps d
kept_places f ps d = sym (reported_kept (number_of f) ps d (no_zero f))

-- WHAT IS PREPARED: a cause, or the tables
pub prepared_not : {x : List ℕ} {n e : ℕ} {t : List ℕ} {f : Refusal} → number_of f ≡ refusal_of (length x) n (length t) e → Preparing x n e t (Err f) t
prepared_not {x} {t = t} {f = f} q = record { refusal = q; tables = kept f (both_tables x) t; byte = tt }

-- where no cause holds, the calls of `tables` refuse nothing either
pub both_serves : {x : List ℕ} (n e : ℕ) {t t' : List ℕ} (f : Refusal) → 0 ≡ refusal_of (length x) n (length t) e → Written 2 (both_tables x) x t (number_of f) t' → ⊥
both_serves {x} n e {t} f z w =
    let a = accepted (length x) n (length t) e z refl in
    no_zero f (w.answer ∙ refuses_none 2 (length x) (length t) (λ q. omega (arith, a.some)) a.short a.tables)

pub prepared : {x : List ℕ} {n e : ℕ} {t t' : List ℕ} (r : Result (List ℕ) Refusal) → 0 ≡ refusal_of (length x) n (length t) e → Written 2 (both_tables x) x t 0 t'
    → occurrences_seen r ≡ occurrence_of x → Preparing x n e t r t'
prepared {x} {n} {e} {t} {t'} r z w o = go r (o ∙ sym (occurrence_by x 0 (sym (refuses_none 0 (length x) 0 (λ q. omega (arith, a.some)) a.short (omega arith)))))
  where
    a : Accepted (length x) n (length t) e
    a = accepted (length x) n (length t) e z refl

    go : (r : Result (List ℕ) Refusal) → occurrences_seen r ≡ record { refusal = 0; table = occurrence_table x } → Preparing x n e t r t'
    go (Ok occ) q = record { refusal = z; tables = w.room; byte = ap (λ (s : Occurrences). s.table) q }
    go (Err f) q = absurd (no_zero f (ap (λ (s : Occurrences). s.refusal) q))

-- THE TABLES ARE READY where nothing was refused
pub ready : {x : List ℕ} (y : List ℕ) {e : ℕ} {t occ t' : List ℕ} → Preparing x (length y) e t (Ok occ) t' → (Ready x y t' occ) × (length x ≤ e)
ready {x} y {e} {t} {occ} {t'} g =
    let a = accepted (length x) (length y) (length t) e g.refusal refl in (
      record {
        sizes = record { some = a.some; short = a.short; small = a.small };
        moving = record { begins = begins_front (both_tables x) t (omega (arith, a.tables, length-both_tables x)) g.tables; byte = g.byte };
      },
      a.memory,
    )

-- THE PROMISES, out of what was prepared and what was searched
pub plain_served : {x y t d occ t' d' : List ℕ} {run : Run} {a : Six} → Preparing x (length y) (length x) t (Ok occ) t' → run ≡ run_of 1 (plain x y)
    → a ≡ answer_by run (length d) → d' ≡ reported (places_of 1 (plain x y)) d → Plainly x y t d (answer_seen (Ok a)) t' d'
plain_served {x} {y} {t} {d} g e made places =
    let ws = plain x y in
    record {
      answer = ap (λ (a : Six). answer_seen (Ok a)) made ∙ answer_of_run ws (length d) e ∙ ap (λ (k : ℕ). answer_of k ws (length d)) g.refusal;
      tables = g.tables;
      places = rw (← multiples_one (positions ws)) places;
    }

pub plain_refused : {x y t d t' : List ℕ} {f : Refusal} → Preparing x (length y) (length x) t (Err f) t' → Plainly x y t d (answer_seen (Err f)) t' d
plain_refused {x} {y} {t} {d} {f = f} g =
    let ws = plain x y in
    record {
      answer = answer_refused (number_of f) ws (length d) (number_above f) ∙ ap (λ (k : ℕ). answer_of k ws (length d)) g.refusal;
      tables = g.tables;
      places = kept_places f (positions ws) d;
    }

-- of whatever was prepared
pub plain_is : {x y t d t' d' : List ℕ} (p : Result (List ℕ) Refusal) (r : Result Six Refusal) → Preparing x (length y) (length x) t p t'
    → refusal_seen r ≡ refusal_seen p → IfOk r (λ a. a ≡ answer_by (run_of 1 (plain x y)) (length d))
    → d' ≡ reported_after (refusal_seen p) (places_of 1 (plain x y)) d → Plainly x y t d (answer_seen r) t' d'
plain_is (Ok occ) (Ok a) g e made places = plain_served g refl made places
plain_is (Ok occ) (Err f) g e made places = absurd (no_zero f e)
plain_is (Err f) (Ok a) g e made places = absurd (no_zero f (sym e))
plain_is {x} {y} {d = d} (Err f) (Err f') g e made places =
    rw (number_same f' f e, places ∙ sym (kept_places f (places_of 1 (plain x y)) d)) (plain_refused g)

pub search_is : {x y t e d occ t' e' d' : List ℕ} {step : ℕ} {run : Run} → Preparing x (length y) (length e) t (Ok occ) t' → run ≡ run_of step (remembering x y)
    → e' ≡ front (replicate (length x) 0) e → d' ≡ reported (places_of step (remembering x y)) d → Searching x y t e d step (Ok run) t' e' d'
search_is g q memory places = record { refusal = g.refusal; run = q; tables = g.tables; memory = memory; places = places }

pub search_refused : {x y t e d t' : List ℕ} {step : ℕ} {f : Refusal} → Preparing x (length y) (length e) t (Err f) t' → Searching x y t e d step (Err f) t' e d
search_refused {x} {y} {e = e} {d = d} {step = step} {f = f} g =
    record {
      refusal = g.refusal;
      run = tt;
      tables = g.tables;
      memory = kept f (replicate (length x) 0) e;
      places = kept_places f (places_of step (remembering x y)) d;
    }

pub remember_served : {x y t e d t' e' d' : List ℕ} {run : Run} {a : Six} → Searching x y t e d 1 (Ok run) t' e' d' → a ≡ answer_by run (length d)
    → Rememberingly x y t e d (answer_seen (Ok a)) t' e' d'
remember_served {x} {y} {d = d} g made =
    let ws = remembering x y in
    record {
      answer = ap (λ (a : Six). answer_seen (Ok a)) made ∙ answer_of_run ws (length d) g.run ∙ ap (λ (k : ℕ). answer_of k ws (length d)) g.refusal;
      tables = g.tables;
      memory = g.memory;
      places = rw (← multiples_one (positions ws)) g.places;
    }

pub remember_refused : {x y t e d t' e' d' : List ℕ} {f : Refusal} → Searching x y t e d 1 (Err f) t' e' d' → Rememberingly x y t e d (answer_seen (Err f)) t' e' d'
remember_refused {x} {y} {d = d} {f = f} g =
    let ws = remembering x y in
    record {
      answer = answer_refused (number_of f) ws (length d) (number_above f) ∙ ap (λ (k : ℕ). answer_of k ws (length d)) g.refusal;
      tables = g.tables;
      memory = g.memory;
      places = rw (← multiples_one (positions ws)) g.places;
    }

pub remember_is : {x y t e d t' e' d' : List ℕ} (q : Result Run Refusal) (r : Result Six Refusal) → Searching x y t e d 1 q t' e' d'
    → refusal_seen r ≡ refusal_seen q → IfOk r (λ a. IfOk q (λ run. a ≡ answer_by run (length d))) → Rememberingly x y t e d (answer_seen r) t' e' d'
remember_is (Ok run) (Ok a) g e made = remember_served g made
remember_is (Ok run) (Err f) g e made = absurd (no_zero f e)
remember_is (Err f) (Ok a) g e made = absurd (no_zero f (sym e))
remember_is (Err f) (Err f') g e made = rw (number_same f' f e) (remember_refused g)

-- positions of the scan are the occurrences
places_are : (x y t e : List ℕ) (step : ℕ) → 0 ≡ refusal_of (length x) (length y) (length t) (length e) → places_of step (remembering x y) ≡ multiples step (occurrences x y)
places_are x y t e step c =
    let some = (accepted (length x) (length y) (length t) (length e) c refl).some in
    ap (multiples step) (demand2 x y some).remembered

no_refusal : (a : Option Places) → (tally_seen (Ok a)).refusal ≡ 0
no_refusal None = refl
no_refusal (Some t) = refl

-- the first place stands in a room of one entry
pub aligned_served : {x y t e t' e' d' : List ℕ} {step : ℕ} {run : Run} {a : Option Places} → Searching x y t e (0 ∷ []) step (Ok run) t' e' d'
    → a ≡ tally_by run (at d' 0) → Aligning x y t e step (tally_seen (Ok a)) t' e'
aligned_served {x} {y} {t} {e} {t'} {e'} {step = step} {a = a} g made =
    let ws = remembering x y in
    let z : 0 ≡ (tally_seen (Ok a)).refusal = sym (no_refusal a) in
    record {
      answer = ap (λ (a : Option Places). tally_seen (Ok a)) made
          ∙ tally_of_run step ws g.run g.places
          ∙ ap (tally_of 0) (places_are x y t e step g.refusal)
          ∙ ap (λ (k : ℕ). tally_of k (multiples step (occurrences x y))) g.refusal;
      tables = subst (λ (k : ℕ). t' ≡ room_after k (both_tables x) t) z g.tables;
      memory = subst (λ (k : ℕ). e' ≡ room_after k (replicate (length x) 0) e) z g.memory;
    }

pub aligned_refused : {x y t e d t' e' d' : List ℕ} {step : ℕ} {f : Refusal} → Searching x y t e d step (Err f) t' e' d' → Aligning x y t e step (tally_seen (Err f)) t' e'
aligned_refused {x} {y} {step = step} {f = f} g =
    let ps = multiples step (occurrences x y) in
    record {
      answer = tally_refused (number_of f) ps (number_above f) ∙ ap (λ (k : ℕ). tally_of k ps) g.refusal;
      tables = g.tables;
      memory = g.memory;
    }

pub aligned_is : {x y t e t' e' d' : List ℕ} {step : ℕ} (q : Result Run Refusal) (r : Result (Option Places) Refusal) → Searching x y t e (0 ∷ []) step q t' e' d'
    → refusal_seen r ≡ refusal_seen q → IfOk r (λ a. IfOk q (λ run. a ≡ tally_by run (at d' 0))) → Aligning x y t e step (tally_seen r) t' e'
aligned_is (Ok run) (Ok a) g e made = aligned_served g made
aligned_is (Ok run) (Err f) g e made = absurd (no_zero f e)
aligned_is (Err f) (Ok a) g e made = absurd (no_zero f (sym e))
aligned_is (Err f) (Err f') g e made = rw (number_same f' f e) (aligned_refused g)

-- FOR THE LAYERS ABOVE: what an accepted search for the places at multiples of a step tells, without its tables
pub record Counted (x y t e : List ℕ) (d : ℕ) (r : Tally) (t' e' : List ℕ) : Type 0 where
  pub number : r.number ≡ length (multiples d (occurrences x y))
  pub first : r.first ≡ first_of (multiples d (occurrences x y))
  pub few : r.number ≤ suc (length y)
  pub near : r.first ≤ length y
  pub tables : Beyond (2 * length x) t t'
  pub memory : Beyond (length x) e e'

-- an accepted search refuses nothing
pub unrefused : {x y t e : List ℕ} {d : ℕ} {r : Tally} {t' e' : List ℕ} → Aligning x y t e d r t' e' → Accepted (length x) (length y) (length t) (length e) → r.refusal ≡ 0
unfolding tally_of
unrefused {x} {y} {d = d} g a =
    ap (λ (r : Tally). r.refusal) (g.answer ∙ ap (λ (k : ℕ). tally_of k (multiples d (occurrences x y))) (accepts a))

pub counted : {x y t e : List ℕ} {d : ℕ} {r : Tally} {t' e' : List ℕ} → Aligning x y t e d r t' e' → Accepted (length x) (length y) (length t) (length e)
    → Counted x y t e d r t' e'
unfolding tally_of
counted {x} {y} {t} {e} {d} {r} {t'} {e'} g a =
    let ps = multiples d (occurrences x y) in
    let q : r ≡ tally_of 0 ps = g.answer ∙ ap (λ (k : ℕ). tally_of k ps) (accepts a) in
    let z : r.refusal ≡ 0 = unrefused g a in
    let number : r.number ≡ length ps = ap (λ (r : Tally). r.number) q in
    let first : r.first ≡ first_of ps = ap (λ (r : Tally). r.first) q in
    record {
      number = number;
      first = first;
      few = omega (arith, number, multiples_few x y d);
      near = omega (arith, first, multiples_near x y d);
      tables = beyond_front (2 * length x) (both_tables x) t (rw z at g.tables) (length-both_tables x) a.tables;
      memory = beyond_front (length x) (replicate (length x) 0) e (rw z at g.memory) (length-replicate (length x) 0) a.memory;
    }
