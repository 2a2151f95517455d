-- Laws of the reader: it hands out the lookup's blocks in directory order, then none, and none over a refused log. Assumes nothing.
use Rattle.std.specs.Prelude.{◌≡◌, refl, false, List, [], ◌∷◌, map, ℕ, zero, suc, ◌+◌, ◌≤◌, ◌<◌}
use Rattle.std.proofs.Common.{sym, ap, ◌∙◌, ⊎_elim, arith, lt-ltb, le-ltb, ltb-false}
use Rattle.std.specs.Borrow.{Bor}
use Rattle.basics.specs.laws.Tests.{le_or_lt}
use Rattle.drawlog.specs.Refusal.{cause_of}
use Rattle.drawlog.specs.Promise.{Tested, Listed, tested_of, found_of, listed_of, BlockAt}
use Rattle.drawlog.specs.Reader.{Reader, opened, carried, left, Handed, ahead, skipped, stands, handed_out, looked_up, cut}
use Rattle.drawlog.specs.laws.Promise.{tested_no, listed_at, listed_none, find_listed}

-- NONE IS LEFT: then none is left at any later call
pub stays_none : (r : Reader) → left r ≡ false → (n : ℕ) → left (skipped r n) ≡ false
stays_none r h n =
    let count = (tested_of r.log.now).count in
    le-ltb (ahead r.log.now r.next n) count (omega (arith, ltb-false r.next count h))

-- over a refused log none is left from the start, and the refusal and its entry number are carried
pub none_refused : (l : Bor (List ℕ)) → ((cause_of l.now).refusal ≡ 0 → ⊥) → (n : ℕ) → left (skipped (opened l) n) ≡ false
none_refused l refused n =
    stays_none (opened l) (le-ltb 0 (tested_of l.now).count (omega (arith, ap (λ (t : Tested). t.count) (tested_no l.now refused)))) n

pub carries_cause : (l : Bor (List ℕ)) (n : ℕ) → carried (skipped (opened l) n) ≡ cause_of l.now
unfolding tested_of
carries_cause l n = refl

-- AFTER k BLOCKS it hands out the block of entry k, and an empty stretch where there is none
pub reads_block : (l : Bor (List ℕ)) (k : ℕ) (b : Bor (List ℕ)) → Handed (skipped (opened l) k) b → BlockAt l k b
reads_block l k b h = rw same at h
  where
    same : listed_of l.now (ahead l.now 0 k) ≡ listed_of l.now k
    same =
        ⊎_elim
        (λ (u : (tested_of l.now).count ≤ k). listed_none l.now (ahead l.now 0 k) (omega arith) ∙ sym (listed_none l.now k u))
        (λ (u : k < (tested_of l.now).count). ap (listed_of l.now) (omega arith))
        (le_or_lt (tested_of l.now).count k)

-- READING ALL
none_left : (n : ℕ) (r : Reader) → left r ≡ false → handed_out n r ≡ []
unfolding handed_out
none_left zero r h = refl
none_left (suc n) r h = rw h

-- a reader over l that stands before entry k
abbrev standing : Bor (List ℕ) → ℕ → ℕ → ℕ → Reader
standing l a b k = record { log = l; next = k; refusal = a; fault = b }

one_on : (s : List ℕ) (k : ℕ) → k < (tested_of s).count → ahead s k 1 ≡ suc k
one_on s k h = omega arith

reads_from : (l : Bor (List ℕ)) (a b : ℕ) (n f k : ℕ) → k + n ≡ (tested_of l.now).count → n ≤ f → handed_out f (standing l a b k) ≡ looked_up l.now n k
unfolding handed_out looked_up
reads_from l a b zero f k e h = none_left f (standing l a b k) (le-ltb k (tested_of l.now).count (omega arith))
reads_from l a b (suc n) zero k e h = absurd (omega arith)
reads_from l a b (suc n) (suc f) k e h =
    let below : k < (tested_of l.now).count = omega arith in
    let found : found_of l.now (listed_of l.now k).id ≡ record { refusal = 0; entry = 0; start = (listed_of l.now k).start; length = (listed_of l.now k).length } =
    find_listed l.now k (ap (λ (x : Listed). x.there) (listed_at l.now k below)) in
    rw (lt-ltb k (tested_of l.now).count below, found, one_on l.now k below)
    (ap (λ (later : List (ℕ × ℕ)). stands (standing l a b k) ∷ later) (reads_from l a b n f (suc k) (omega arith) (omega arith)))

-- as many calls as there are blocks, or more, hand out what the lookup finds for each id, in directory order; none over a refused log
pub reads_all : (l : Bor (List ℕ)) (n : ℕ) → (tested_of l.now).count ≤ n → handed_out n (opened l) ≡ looked_up l.now (tested_of l.now).count 0
reads_all l n h = reads_from l (tested_of l.now).refusal (tested_of l.now).entry (tested_of l.now).count n 0 (omega arith) h

-- and so the same bytes
pub reads_bytes : (l : Bor (List ℕ)) (n : ℕ) → (tested_of l.now).count ≤ n
    → map (cut l.now) (handed_out n (opened l)) ≡ map (cut l.now) (looked_up l.now (tested_of l.now).count 0)
reads_bytes l n h = ap (map (cut l.now)) (reads_all l n h)
