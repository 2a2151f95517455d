-- Laws of what the private functions hand on: the work rooms, and the pairs found so far. Assumes nothing.
use Rattle.std.specs.Prelude.{◌≡◌, refl, List, [], ◌∷◌, ◌++◌, ℕ, ◌+◌, ◌*◌, ◌≤◌, ◌<◌, cond, length, take, drop}
use Rattle.std.proofs.Common.{sym, ap, ◌∙◌, add-zero, arith, length-append, drop-drop}
use Rattle.basics.specs.laws.Rooms.{beyond_none, beyond_then}
use Rattle.basics.specs.laws.Inlaid.{Inlaid, inlaid_length, inlaid_none, inlaid_then}
use Rattle.scans.specs.Promise.{Tally, Aligning}
use Rattle.scans.specs.laws.Refusal.{Accepted}
use Rattle.scans.specs.laws.Search.{unrefused, counted}
use Rattle.drawlog.specs.Promise.{tested_of, listed_of}
use Rattle.pairs.specs.declared.run.Run.{Run}
use Rattle.pairs.specs.Check.{probe_size, block, probed, Pair, pair_with, pairs_with, pairs_of, pairs, unprobed, numbers}
use Rattle.pairs.specs.Inside.{Worked, Ready, Sought, Found, Same, Onward}
use Rattle.pairs.specs.laws.Check.{numbers-append, length-numbers, block_is, block_short, with_next, pairs_next, unprobed-next}

-- WORK ROOMS
module _ {m : ℕ} {t e : List ℕ} where
  pub worked_none : Worked m t e t e
  worked_none = record { tables = beyond_none; memory = beyond_none }

  pub worked_then : {t₁ e₁ t₂ e₂ : List ℕ} → Worked m t e t₁ e₁ → Worked m t₁ e₁ t₂ e₂ → Worked m t e t₂ e₂
  worked_then u v = record { tables = beyond_then u.tables v.tables; memory = beyond_then u.memory v.memory }

  -- they can be searched with again
  pub ready_again : {t₁ e₁ : List ℕ} → Ready m t e → Worked m t e t₁ e₁ → Ready m t₁ e₁
  ready_again r w =
      record {
        some = r.some;
        short = r.short;
        tables = omega (arith, r.tables, w.tables.size);
        memory = omega (arith, r.memory, w.memory.size);
      }

  -- a scan of a block refuses nothing
  pub ready_accepted : (n : ℕ) → Ready m t e → n ≤ 65536 → Accepted m n (length t) (length e)
  ready_accepted n r l = record { some = r.some; short = r.short; small = omega arith; tables = r.tables; memory = r.memory }

-- THE PAIRS FOUND
pub found-length : {qs : List Pair} {k k' : ℕ} {d d' : List ℕ} → Found qs k d k' d' → length d' ≡ length d
found-length g = inlaid_length g.laid

pub found_none : {qs : List Pair} {k : ℕ} {d : List ℕ} → qs ≡ [] → 4 * k ≤ length d → Found qs k d k d
unfolding numbers
found_none {qs} {k} {d} e l = rw e (record { number = sym (add-zero k); laid = inlaid_none d (4 * k) l })

pub found_one : {qs : List Pair} {q : Pair} {k u v w x : ℕ} {d d' : List ℕ} → qs ≡ q ∷ [] → Inlaid d (4 * k) (u ∷ v ∷ w ∷ x ∷ []) d'
    → u ≡ q.owner → v ≡ q.other → w ≡ q.first → x ≡ q.number → Found qs k d (k + 1) d'
unfolding numbers
found_one e l eu ev ew ex = rw e (record { number = refl; laid = rw (eu, ev, ew, ex) at l })

pub found_then : {qs rs ts : List Pair} {k k₁ k₂ : ℕ} {d d₁ d₂ : List ℕ} → qs ++ rs ≡ ts → Found qs k d k₁ d₁ → Found rs k₁ d₁ k₂ d₂ → Found ts k d k₂ d₂
found_then {qs} {rs} {ts} {k} {k₁} {k₂} {d} {d₁} {d₂} e u v =
    rw (← e)
    (record {
      number = rw (length-append qs rs) (omega (arith, u.number, v.number));
      laid = rw (numbers-append qs rs) (inlaid_then u.laid (omega (arith, u.number, length-numbers qs)) v.laid);
    })

-- they lie within the result room
pub found_within : {qs : List Pair} {k k' : ℕ} {d d' : List ℕ} → Found qs k d k' d' → 4 * k' ≤ length d
found_within {qs} g = omega (arith, g.number, g.laid.room, length-numbers qs)

-- and where the numbers of one are copied behind those of the pairs before
pub found_copied : {q : Pair} {k n : ℕ} {d ys : List ℕ} → 4 * (k + 1) ≤ length d → n ≡ 4 → ys ≡ q.owner ∷ q.other ∷ q.first ∷ q.number ∷ []
    → Found (q ∷ []) k d (k + 1) (take (4 * k) d ++ (ys ++ drop n (drop (4 * k) d)))
found_copied {k = k} {d = d} h z e =
    found_one refl (record { room = omega arith; is = rw (e, z, drop-drop 4 (4 * k) d) }) refl refl refl refl

-- ONE SEARCH, of the stretch y that the log hands out for block b
pub sought : {d : ℕ} {x y t e : List ℕ} {r : Tally} {t' e' : List ℕ} (s : List ℕ) (b : ℕ) → b < (tested_of s).count
    → y ≡ take (listed_of s b).length (drop (listed_of s b).start s) → Aligning x y t e d r t' e' → Ready (length x) t e → Sought d x s b t e r t' e'
sought {d} {x} {y} s b there q g ready =
    let z : y ≡ block s b = q ∙ block_is s b there in
    let c = counted (rw z at g) (ready_accepted (length (block s b)) ready (block_short s b there)) in
    record {
      number = c.number;
      first = c.first;
      few = omega (arith, c.few, block_short s b there);
      near = omega (arith, c.near, block_short s b there);
      worked = record { tables = c.tables; memory = c.memory };
    }

-- and that it refuses nothing
pub served : {d : ℕ} {x y t e : List ℕ} {r : Tally} {t' e' : List ℕ} (s : List ℕ) (b : ℕ) → b < (tested_of s).count
    → y ≡ take (listed_of s b).length (drop (listed_of s b).start s) → Aligning x y t e d r t' e' → Ready (length x) t e → r.refusal ≡ 0
served {d} {x} {y} s b there q g ready =
    let z : y ≡ block s b = q ∙ block_is s b there in
    unrefused (rw z at g) (ready_accepted (length (block s b)) ready (block_short s b there))

-- A CHECK UNDER WAY can search for every probe
pub run_ready : {m : ℕ} (u : Run) → m ≡ probe_size u.p → Ready m u.tables.now u.memory.now
run_ready u e =
    rw e
    (record {
      some = omega (arith, u.some);
      short = omega (arith, u.short);
      tables = u.for_tables;
      memory = u.for_memory;
    })

pub same : (u : Run) → Same u u
same u = (refl, refl, refl, refl, refl, refl)

-- it finds nothing
pub onward_none : {qs : List Pair} {n : ℕ} {u : Run} → qs ≡ [] → n ≡ 0 → Onward qs n u u
onward_none {u = u} e z =
    record {
      same = same u;
      worked = worked_none;
      found = found_none e u.within;
      unprobed = rw z (sym (add-zero u.unprobed));
    }

-- one step after another
pub onward_then : {qs rs ts : List Pair} {m n k : ℕ} {u v w : Run} → qs ++ rs ≡ ts → m + n ≡ k → Onward qs m u v → Onward rs n v w → Onward ts k u w
onward_then e q f g =
    record {
      same = (g.same.0 ∙ f.same.0, g.same.1 ∙ f.same.1, g.same.2 ∙ f.same.2, g.same.3 ∙ f.same.3, g.same.4 ∙ f.same.4, g.same.5 ∙ f.same.5);
      worked = worked_then f.worked (rw f.same.2 at g.worked);
      found = found_then e f.found g.found;
      unprobed = omega (arith, q, f.unprobed, g.unprobed);
    }

-- the same, told otherwise
pub onward_as : {qs rs : List Pair} {m n : ℕ} {u v : Run} → qs ≡ rs → n ≡ m → Onward qs m u v → Onward rs n u v
onward_as e q g = rw (← e, q) g

-- one block more, and one owner more, of a log that stays as it is
pub blocks_then : (d : ℕ) (x : List ℕ) {u v w : Run} (a b : ℕ) → Onward (pairs_with d x u.log.now a b) 0 u v → Onward (pair_with d x v.log.now a b) 0 v w
    → Onward (pairs_with d x u.log.now a (b + 1)) 0 u w
blocks_then d x {u} a b f g =
    onward_then (ap (λ (s : List ℕ). pairs_with d x u.log.now a b ++ pair_with d x s a b) f.same.0 ∙ with_next d x u.log.now a b) refl f g

pub owners_then : (d : ℕ) {u v w : Run} (a : ℕ) → Onward (pairs d u.p u.log.now a) (unprobed u.p u.log.now a) u v
    → Onward (pairs_of d v.p v.log.now a) (cond (probed v.p v.log.now a) 0 1) v w → Onward (pairs d u.p u.log.now (a + 1)) (unprobed u.p u.log.now (a + 1)) u w
owners_then d {u} {v} a f g =
    onward_then
    (ap (λ (s : List ℕ). pairs d u.p u.log.now a ++ pairs_of d v.p s a) f.same.0
    ∙ ap (λ (p : ℕ). pairs d u.p u.log.now a ++ pairs_of d p u.log.now a) f.same.2
    ∙ pairs_next d u.p u.log.now a)
    (unprobed-next u.p u.log.now a refl
    (ap (λ (s : List ℕ). unprobed u.p u.log.now a + cond (probed v.p s a) 0 1) f.same.0
    ∙ ap (λ (p : ℕ). unprobed u.p u.log.now a + cond (probed p u.log.now a) 0 1) f.same.2))
    f g
