-- The position room and the number of places noted while a scan runs. Assumes nothing.
use Rattle.std.specs.Prelude.{◌≡◌, refl, true, false, cond, List, [], ◌∷◌, ◌++◌, ℕ, suc, ◌+◌, ◌≤◌, ◌<◌, ◌%◌, length, get_or, take, drop, set, Option, Some, None, is_some}
use Rattle.std.proofs.Common.{sym, ap, ◌∙◌, append_assoc, append-nil, zero-le, arith, eqb-true, length-append, length-take, length-drop, drop_of_length-le, take_all, drop-cons}
use Rattle.std.proofs.Math.Nat.{mod-one, zero-mod}
use Rattle.std.proofs.Math.Decide.{dec_lt}
use Rattle.std.proofs.lemmas.List.{set_at, take-append-le}
use Rattle.std.proofs.Math.Seq.{set_out}
use Rattle.basics.specs.Lists.{at}
use Rattle.basics.specs.laws.Tests.{bool_case}
use Rattle.scans.specs.Trace.{End, matched, stopped, found}
use Rattle.scans.specs.Occurrences.{on_step, multiples, first_of}
use Rattle.scans.specs.Promise.{reported}
use Rattle.scans.specs.inside.Window.{end_of}
use Rattle.scans.specs.inside.Hits.{counted_by, noted_by}

-- the position room with one position more
pub reported-length : (ps d : List ℕ) → length (reported ps d) ≡ length d
reported-length ps d = simp (length-append, length-take, length-drop) (omega arith)

module _ (ps d : List ℕ) (v : ℕ) where
  more_within : length ps < length d → set (reported ps d) (length ps) v ≡ reported (ps ++ (v ∷ [])) d
  more_within h =
      let l : length (ps ++ (v ∷ [])) ≡ suc (length ps) = length-append ps (v ∷ []) ∙ omega arith in
      rw (take_all (length d) ps (omega arith), take_all (length d) (ps ++ (v ∷ [])) (omega arith), l, drop-cons d (length ps) 0 h)
      (set_at ps (get_or d (length ps) 0) (drop (suc (length ps)) d) v (length ps) refl ∙ sym (append_assoc ps (v ∷ []) (drop (suc (length ps)) d)))

  more_beyond : length d ≤ length ps → set (reported ps d) (length ps) v ≡ reported (ps ++ (v ∷ [])) d
  more_beyond h =
      let l : length (ps ++ (v ∷ [])) ≡ suc (length ps) = length-append ps (v ∷ []) ∙ omega arith in
      set_out (reported ps d) (length ps) v (omega (arith, reported-length ps d))
      ∙ rw (l, drop_of_length-le d {i = length ps} h, drop_of_length-le d {i = suc (length ps)} (omega arith), take-append-le (length d) ps (v ∷ []) h)

  pub reported-more : set (reported ps d) (length ps) v ≡ reported (ps ++ (v ∷ [])) d
  reported-more = go (dec_lt (length ps) (length d))
    where
      go : Dec (length ps < length d) → set (reported ps d) (length ps) v ≡ reported (ps ++ (v ∷ [])) d
      go (yes h) = more_within h
      go (no h) = more_beyond (omega arith)

-- in a room of one entry, which is 0 at first, stands the first
pub reported_first : (ps : List ℕ) → at (reported ps (0 ∷ [])) 0 ≡ first_of ps
reported_first [] = refl
reported_first (j ∷ ps) = refl

-- THE PLACES AT MULTIPLES OF THE STEP
pub multiples_le : (d : ℕ) (ps : List ℕ) → length (multiples d ps) ≤ length ps
unfolding multiples
multiples_le d [] = zero-le
multiples_le d (j ∷ ps) =
    bool_case (on_step d j) (λ t. length {A = ℕ} (elim t [ true ↦ j ∷ multiples d ps | false ↦ multiples d ps ]) ≤ suc (length ps))
    (λ e. omega (arith, multiples_le d ps))
    (λ e. omega (arith, multiples_le d ps))

-- the first of them is one; so is 0, where there is none
pub first_on_step : (d : ℕ) (ps : List ℕ) → first_of (multiples d ps) % d ≡ 0
unfolding multiples
first_on_step d [] = zero-mod d
first_on_step d (j ∷ ps) =
    bool_case (on_step d j) (λ t. first_of (elim t [ true ↦ j ∷ multiples d ps | false ↦ multiples d ps ]) % d ≡ 0)
    (λ e. eqb-true (j % d) 0 e)
    (λ e. first_on_step d ps)

-- of 1, every place is
pub on_one : (j : ℕ) → on_step 1 j ≡ true
on_one j = rw (mod-one j)

pub multiples_one : (ps : List ℕ) → multiples 1 ps ≡ ps
unfolding multiples
multiples_one [] = refl
multiples_one (j ∷ ps) = rw (multiples, on_one j) (ap (λ (l : List ℕ). j ∷ l) (multiples_one ps))

-- one place more
multiples-more : (d j : ℕ) (ps : List ℕ) → multiples d (ps ++ (j ∷ [])) ≡ multiples d ps ++ cond (on_step d j) (j ∷ []) []
unfolding multiples
multiples-more d j [] = bool_case (on_step d j) (λ t. elim t [ true ↦ j ∷ [] | false ↦ [] ] ≡ cond t (j ∷ []) []) (λ e. refl) (λ e. refl)
multiples-more d j (k ∷ ps) =
    bool_case (on_step d k)
    (λ t. elim t [ true ↦ k ∷ multiples d (ps ++ (j ∷ [])) | false ↦ multiples d (ps ++ (j ∷ [])) ]
    ≡ elim t [ true ↦ k ∷ multiples d ps | false ↦ multiples d ps ] ++ cond (on_step d j) (j ∷ []) [])
    (λ e. ap (λ (l : List ℕ). k ∷ l) (multiples-more d j ps))
    (λ e. multiples-more d j ps)

-- WHAT A WINDOW ADDS, by the three cases that the code takes
module _ (d j h : ℕ) (r : List ℕ) where
  pub note_stopped : (stop : Option ℕ) → is_some stop ≡ true → (h ≡ counted_by d j (end_of stop) h) × (r ≡ noted_by d j (end_of stop) h r)
  note_stopped None e = absurd cc
  note_stopped (Some i) e = (refl, refl)

  pub note_passed : (stop : Option ℕ) → is_some stop ≡ false → on_step d j ≡ false → (h ≡ counted_by d j (end_of stop) h) × (r ≡ noted_by d j (end_of stop) h r)
  note_passed None z e = rw e (refl, refl)
  note_passed (Some i) z e = absurd cc

  pub note_taken : (stop : Option ℕ) → is_some stop ≡ false → on_step d j ≡ true → (h + 1 ≡ counted_by d j (end_of stop) h) × (set r h j ≡ noted_by d j (end_of stop) h r)
  note_taken None z e = rw e (refl, refl)
  note_taken (Some i) z e = absurd cc

-- WHILE A SCAN RUNS: of the places ps those at multiples of the step are noted, d₀ is the position room at first
pub record Noted (step : ℕ) (ps d₀ d : List ℕ) (h : ℕ) : Type 0 where
  pub hits : h ≡ length (multiples step ps)
  pub room : d ≡ reported (multiples step ps) d₀

pub noted_none : (step : ℕ) (d : List ℕ) → Noted step [] d d 0
unfolding multiples
noted_none step d = record { hits = refl; room = room d }
  where
    room : (d : List ℕ) → d ≡ take (length d) [] ++ d
    room [] = refl
    room (a ∷ d) = refl

module _ {step : ℕ} {ps d₀ d : List ℕ} {h : ℕ} (g : Noted step ps d₀ d h) where
  -- a place that is noted, and one that is passed over
  noted_taken : (j : ℕ) → on_step step j ≡ true → Noted step (ps ++ (j ∷ [])) d₀ (set d h j) (h + 1)
  noted_taken j e =
      let q : multiples step ps ++ (j ∷ []) ≡ multiples step (ps ++ (j ∷ [])) = sym (multiples-more step j ps ∙ rw e) in
      let n : h + 1 ≡ length (multiples step ps ++ (j ∷ [])) = omega (arith, g.hits, length-append (multiples step ps) (j ∷ [])) in
      record {
        hits = n ∙ ap length q;
        room = ap (λ (n : ℕ). set d n j) g.hits
            ∙ ap (λ (r : List ℕ). set r (length (multiples step ps)) j) g.room
            ∙ reported-more (multiples step ps) d₀ j
            ∙ ap (λ (l : List ℕ). reported l d₀) q;
      }

  noted_passed : (j : ℕ) → on_step step j ≡ false → Noted step (ps ++ (j ∷ [])) d₀ d h
  noted_passed j e =
      let q : multiples step ps ≡ multiples step (ps ++ (j ∷ [])) = sym (multiples-more step j ps ∙ rw e (append-nil (multiples step ps))) in
      record { hits = g.hits ∙ ap length q; room = g.room ∙ ap (λ (l : List ℕ). reported l d₀) q }

  pub noted_more : {d' : List ℕ} {h' : ℕ} (j : ℕ) (e : End) → h' ≡ counted_by step j e h → d' ≡ noted_by step j e h d → Noted step (ps ++ found j e []) d₀ d' h'
  noted_more j matched p q =
      rw (p, q)
      (bool_case (on_step step j) (λ t. Noted step (ps ++ (j ∷ [])) d₀ (cond t (set d h j) d) (cond t (h + 1) h)) (noted_taken j) (noted_passed j))
  noted_more j (stopped i) p q = rw (append-nil ps, p, q) g

  pub noted_length : length d ≡ length d₀
  noted_length = ap length g.room ∙ reported-length (multiples step ps) d₀

  pub noted_le : h ≤ length ps
  noted_le = omega (arith, g.hits, multiples_le step ps)
