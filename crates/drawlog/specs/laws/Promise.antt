-- Laws of the answers: each by its cases, and what the lookup finds. That the stretch that it names lies in the log is in proofs/Promise. Assumes nothing.
use Rattle.std.specs.Prelude.{◌≡◌, refl, ◌⊎◌, true, false, List, ℕ, suc, ◌≤◌, ◌<◌, eqb}
use Rattle.std.proofs.Common.{sym, ap, ◌∙◌, inl, inr, ⊎_elim, true≢false, arith}
use borrow.Author.Tests.{eq-eqb, ne_eqb, eqb-true, lt-ltb, le-ltb}
use Rattle.basics.specs.laws.Tests.{equal_or_not, le_or_lt}
use Rattle.basics.specs.laws.Search.{least_is, least_passes}
use Rattle.drawlog.specs.declared.layout.Log.{Log}
use Rattle.drawlog.specs.Log.{count, id_at, start_at, length_at}
use Rattle.drawlog.specs.Refusal.{cause_of}
use Rattle.drawlog.specs.Promise.{Tested, Listed, Found, tested_of, seek, found_of, listed_of}
use Rattle.drawlog.specs.laws.Log.{Reaches}
use Rattle.drawlog.specs.laws.Refusal.{Accepted, accepted_is}
use Rattle.drawlog.specs.laws.Accepted.{ids_rise}

-- THE LOOKUP finds what a search upward from entry 0 finds
pub seek_is : {s : List ℕ} {t : Log} {n : ℕ} → Reaches s t n → (id k : ℕ) → k ≤ t.count → ((j : ℕ) → j < k → id_at s j ≡ id → ⊥)
    → (k ≡ t.count) ⊎ (id_at s k ≡ id) → seek s id ≡ k
unfolding seek
seek_is {s} {t} r id k h none stop =
    let e : t.count ≡ count s = ap (λ (u : Log). u.count) r.says in
    least_is (λ j. eqb (id_at s j) id) (count s) 0 k (omega arith) (omega arith)
    (λ j u v. ne_eqb (id_at s j) id (none j v))
    (⊎_elim (λ (q : k ≡ t.count). inl (omega arith)) (λ (q : id_at s k ≡ id). inr (eq-eqb (id_at s k) id q)) stop)

-- THE ANSWERS about an accepted log
module _ (s : List ℕ) (a : (cause_of s).refusal ≡ 0) where
  pub tested_yes : tested_of s ≡ record { refusal = 0; entry = 0; count = count s }
  unfolding tested_of
  tested_yes = rw (accepted_is s a).cause

  pub found_at : (id : ℕ) → seek s id < count s → found_of s id ≡ record { refusal = 0; entry = 0; start = start_at s (seek s id); length = length_at s (seek s id) }
  unfolding found_of
  found_at id h = rw (eq-eqb (cause_of s).refusal 0 a, lt-ltb (seek s id) (count s) h)

  pub found_none : (id : ℕ) → count s ≤ seek s id → found_of s id ≡ record { refusal = 18; entry = 0; start = 0; length = 0 }
  unfolding found_of
  found_none id h = rw (eq-eqb (cause_of s).refusal 0 a, le-ltb (seek s id) (count s) h)

-- and about a refused one
module _ (s : List ℕ) (a : (cause_of s).refusal ≡ 0 → ⊥) where
  pub tested_no : tested_of s ≡ record { refusal = (cause_of s).refusal; entry = (cause_of s).entry; count = 0 }
  unfolding tested_of
  tested_no = rw (ne_eqb (cause_of s).refusal 0 a)

  pub found_no : (id : ℕ) → found_of s id ≡ record { refusal = (cause_of s).refusal; entry = (cause_of s).entry; start = 0; length = 0 }
  unfolding found_of
  found_no id = rw (ne_eqb (cause_of s).refusal 0 a)

-- AN ENTRY is there exactly below the number of replicates
module _ (s : List ℕ) (k : ℕ) where
  pub listed_at : k < (tested_of s).count → listed_of s k ≡ record {
    refusal = (tested_of s).refusal;
    entry = (tested_of s).entry;
    there = true;
    id = id_at s k;
    start = start_at s k;
    length = length_at s k;
  }
  unfolding listed_of
  listed_at h = rw (lt-ltb k (tested_of s).count h)

  pub listed_none : (tested_of s).count ≤ k → listed_of s k ≡ record {
    refusal = (tested_of s).refusal;
    entry = (tested_of s).entry;
    there = false;
    id = 0;
    start = 0;
    length = 0;
  }
  unfolding listed_of
  listed_none h = rw (le-ltb k (tested_of s).count h)

-- so a log with an entry is accepted
pub record Holding (s : List ℕ) : Type 0 where
  pub cause : (cause_of s).refusal ≡ 0
  pub number : (tested_of s).count ≡ count s
  pub good : Accepted s

pub holding : (s : List ℕ) (k : ℕ) → k < (tested_of s).count → Holding s
holding s k h =
    ⊎_elim
    (λ (a : (cause_of s).refusal ≡ 0).
    record { cause = a; number = ap (λ (t : Tested). t.count) (tested_yes s a); good = accepted_is s a })
    (λ (a : (cause_of s).refusal ≡ 0 → ⊥). absurd (omega (arith, ap (λ (t : Tested). t.count) (tested_no s a))))
    (equal_or_not (cause_of s).refusal 0)

-- FIND AND ENTRY AGREE: ids rise strictly, so a lookup finds the one entry with its id
pub seek_id : (s : List ℕ) → Accepted s → (k : ℕ) → k < count s → seek s (id_at s k) ≡ k
unfolding seek
seek_id s a k h =
    least_is (λ j. eqb (id_at s j) (id_at s k)) (count s) 0 k (omega arith) (omega arith)
    (λ j u v. ne_eqb (id_at s j) (id_at s k) (λ q. omega (arith, ids_rise s a j k v h)))
    (inr (eq-eqb (id_at s k) (id_at s k) refl))

-- the lookup of entry k's id answers entry k's start and length
pub find_listed : (s : List ℕ) (k : ℕ) → (listed_of s k).there ≡ true
    → found_of s (listed_of s k).id ≡ record { refusal = 0; entry = 0; start = (listed_of s k).start; length = (listed_of s k).length }
find_listed s k there = ⊎_elim found none (le_or_lt (suc k) (tested_of s).count)
  where
    found : k < (tested_of s).count → found_of s (listed_of s k).id ≡ record { refusal = 0; entry = 0; start = (listed_of s k).start; length = (listed_of s k).length }
    found h =
        let held = holding s k h in
        let e : seek s (id_at s k) ≡ k = seek_id s held.good k (omega (arith, held.number)) in
        rw (listed_at s k h) (found_at s held.cause (id_at s k) (omega (arith, held.number)) ∙ rw e)

    none : (tested_of s).count < suc k → found_of s (listed_of s k).id ≡ record { refusal = 0; entry = 0; start = (listed_of s k).start; length = (listed_of s k).length }
    none h = absurd (true≢false (sym there ∙ ap (λ (l : Listed). l.there) (listed_none s k (omega arith))))

-- an id that the lookup finds is that of an entry
seek_below : (s : List ℕ) (id : ℕ) → (found_of s id).refusal ≡ 0 → seek s id < (tested_of s).count
seek_below s id h =
    ⊎_elim
    (λ (a : (cause_of s).refusal ≡ 0). ⊎_elim
    (λ (l : count s ≤ seek s id). absurd (omega (arith, ap (λ (f : Found). f.refusal) (found_none s a id l))))
    (λ (l : seek s id < count s). omega (arith, ap (λ (t : Tested). t.count) (tested_yes s a)))
    (le_or_lt (count s) (seek s id)))
    (λ (a : (cause_of s).refusal ≡ 0 → ⊥). absurd (a (sym (ap (λ (f : Found). f.refusal) (found_no s a id)) ∙ h)))
    (equal_or_not (cause_of s).refusal 0)

seek_finds : (s : List ℕ) (id : ℕ) → seek s id < count s → id_at s (seek s id) ≡ id
unfolding seek
seek_finds s id h = eqb-true _ _ (least_passes (λ j. eqb (id_at s j) id) (count s) 0 (omega arith))

pub found_listed : (s : List ℕ) (id : ℕ) → (found_of s id).refusal ≡ 0 → ((listed_of s (seek s id)).there ≡ true) × ((listed_of s (seek s id)).id ≡ id)
found_listed s id h =
    let l : seek s id < (tested_of s).count = seek_below s id h in
    rw (listed_at s (seek s id) l) (refl, seek_finds s id (omega (arith, (holding s (seek s id) l).number)))
