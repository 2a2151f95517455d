-- What the check's answer and result room say where its rooms are large enough: no cause but the log test's refuses. Assumes nothing.
use Rattle.std.specs.Prelude.{◌≡◌, Err, List, ℕ, ◌-◌, ◌*◌, ◌≤◌, length}
use Rattle.std.proofs.Common.{sym, ap, ◌∙◌, ⊎_elim, mul-le-mul, arith}
use Rattle.basics.specs.Rooms.{front, Begins}
use Rattle.basics.specs.laws.Rooms.{begins_front}
use Rattle.basics.specs.laws.Tests.{equal_or_not}
use Rattle.basics.specs.declared.refusal.Fault.{Fault}
use Rattle.basics.specs.Refusal.{Cause, number_of, fault_seen}
use Rattle.basics.specs.laws.Refusal.{number_above}
use Rattle.drawlog.specs.Log.{count}
use Rattle.drawlog.specs.Refusal.{cause_of}
use Rattle.drawlog.specs.Promise.{Tested, tested_of, tested_seen}
use Rattle.drawlog.specs.laws.Promise.{tested_yes, tested_no}
use Rattle.pairs.specs.Check.{pairs, unprobed, numbers}
use Rattle.pairs.specs.Refusal.{own_cause}
use Rattle.pairs.specs.Promise.{step, Checked, cause, Checking}
use Rattle.pairs.specs.laws.Promise.{checked_refusal, checked_entry, checked_numbers}
use Rattle.pairs.specs.laws.Check.{length-numbers, pairs_few, tested_few, tested_count}
use Rattle.pairs.specs.laws.Refusal.{long_enough, refuses_none, cause_log, cause_own}
use Rattle.listing.specs.Listing.{draws, refused_line, listing}
use Rattle.listing.specs.Inside.{Holds}
use Rattle.listing.specs.laws.Text.{listing_refused}

-- 64 replicates have no more pairs than the result room holds
enough : (c : ℕ) → c ≤ 64 → c * (c - 1) ≤ 64 * 63
enough c h = mul-le-mul {n₁ = c} {m₁ = c - 1} {n₂ = 64} {m₂ = 63} (omega arith) (omega arith)

tested_refusal : (s : List ℕ) → (tested_of s).refusal ≡ (cause_of s).refusal
tested_refusal s =
    ⊎_elim
    (λ (z : (cause_of s).refusal ≡ 0). ap (λ (t : Tested). t.refusal) (tested_yes s z) ∙ sym z)
    (λ (n : (cause_of s).refusal ≡ 0 → ⊥). ap (λ (t : Tested). t.refusal) (tested_no s n))
    (equal_or_not (cause_of s).refusal 0)

-- a fault of the log test
pub tested_cause : (s : List ℕ) (f : Fault) → tested_seen (Err f) ≡ tested_of s → fault_seen f ≡ cause_of s
tested_cause s f e =
    let refusal : number_of f.refusal ≡ (cause_of s).refusal = ap (λ (t : Tested). t.refusal) e ∙ tested_refusal s in
    let entry : f.entry ≡ (cause_of s).entry =
    ap (λ (t : Tested). t.entry) (e ∙ tested_no s (λ z. omega (arith, number_above f.refusal, refusal, z))) in
    λ i. record { refusal = refusal i; entry = entry i }

module _ (s t e d : List ℕ) {r : Checked} {t' e' d' : List ℕ} (told : Checking s draws t e d r t' e' d') (lt : length t ≡ 512) (le : length e ≡ 256)
    (ld : length d ≡ 16128) where
  own_none : own_cause draws (length t) (length e) (length d) (tested_of s).count ≡ 0
  own_none =
      refuses_none draws (length t) (length e) (length d) (tested_of s).count (omega arith) (omega arith)
      (long_enough draws (length t) (length e) (omega (arith, lt)) (omega (arith, le)))
      (omega (arith, ld, enough (tested_of s).count (tested_few s)))

  cause_is : (cause s draws t e d).refusal ≡ (tested_of s).refusal
  cause_is =
      ⊎_elim
      (λ (z : (tested_of s).refusal ≡ 0).
      ap (λ (k : Cause). k.refusal) (cause_own (tested_of s) draws (length t) (length e) (length d) z) ∙ own_none ∙ sym z)
      (λ (n : (tested_of s).refusal ≡ 0 → ⊥).
      ap (λ (k : Cause). k.refusal) (cause_log (tested_of s) draws (length t) (length e) (length d) n))
      (equal_or_not (tested_of s).refusal 0)

  answered : r.refusal ≡ (cause s draws t e d).refusal
  answered =
      ap (λ (r : Checked). r.refusal) told.answer
      ∙ checked_refusal (cause s draws t e d).refusal (cause s draws t e d).entry (pairs step draws s (count s)) (unprobed draws s (count s))

  pub refusal_is : r.refusal ≡ (cause_of s).refusal
  refusal_is = answered ∙ cause_is ∙ tested_refusal s

  -- ON REFUSAL
  entry_is : (r.refusal ≡ 0 → ⊥) → r.entry ≡ (cause_of s).entry
  entry_is n =
      ap (λ (r : Checked). r.entry) told.answer
      ∙ checked_entry (cause s draws t e d).refusal (cause s draws t e d).entry (pairs step draws s (count s)) (unprobed draws s (count s)) (λ z. n (answered ∙ z))
      ∙ ap (λ (k : Cause). k.entry)
      (cause_log (tested_of s) draws (length t) (length e) (length d) (λ z. n (answered ∙ cause_is ∙ z)))
      ∙ ap (λ (t : Tested). t.entry) (tested_no s (λ z. n (refusal_is ∙ z)))

  pub refused_cause : (r.refusal ≡ 0 → ⊥) → record { refusal = r.refusal; entry = r.entry } ≡ cause_of s
  refused_cause n = λ i. record { refusal = refusal_is i; entry = entry_is n i }

  pub refused_text : (r.refusal ≡ 0 → ⊥) → refused_line r.refusal r.entry ≡ listing s
  refused_text n = rw (refusal_is, entry_is n) (listing_refused s (λ z. n (refusal_is ∙ z)))

  -- ON SUCCESS: q is what the log test answers
  module _ (z : r.refusal ≡ 0) {q : Tested} (is : q ≡ tested_of s) where
    numbers-told : (r.pairs ≡ length (pairs step draws s (count s))) × (r.unprobed ≡ unprobed draws s (count s))
    numbers-told =
        let g =
        checked_numbers (cause s draws t e d).refusal (cause s draws t e d).entry (pairs step draws s (count s)) (unprobed draws s (count s)) (sym answered ∙ z) in
        (ap (λ (r : Checked). r.pairs) told.answer ∙ g.0, ap (λ (r : Checked). r.unprobed) told.answer ∙ g.1)

    pub count-told : q.count ≡ count s
    count-told = ap (λ (t : Tested). t.count) is ∙ tested_count s (tested_refusal s ∙ sym refusal_is ∙ z)

    few : count s ≤ 64
    few = omega (arith, sym count-told, ap (λ (t : Tested). t.count) is, tested_few s)

    room_told : Begins (numbers (pairs step draws s (count s))) d'
    room_told =
        let after : d' ≡ front (numbers (pairs step draws s (count s))) d = rw z at told.result in
        begins_front (numbers (pairs step draws s (count s))) d
        (omega (arith, ld, length-numbers (pairs step draws s (count s)), pairs_few step draws s (count s) (omega arith), enough (count s) few))
        after

    pub held_told : Holds s q.count d' r.pairs
    held_told =
        record {
          count = ap (λ (t : Tested). t.count) is;
          room = rw count-told room_told;
          number = rw count-told numbers-told.0;
        }

    pub missed_told : r.unprobed ≡ unprobed draws s q.count
    missed_told = rw count-told numbers-told.1
