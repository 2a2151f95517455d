-- The outcomes of the code, by their cases, as the answers of the definitions. Assumes nothing.
use Rattle.std.proofs.Common.{◌≡◌, Some, None, Result, Ok, Err, List, ℕ, ◌≤◌, ◌<◌, MatchResult, sym, inl, inr, ap, arith, refl}
use Rattle.basics.specs.declared.refusal.Refusal.{Refusal}
use Rattle.basics.specs.declared.refusal.Fault.{Fault}
use Rattle.basics.specs.Refusal.{Cause, number_of, no_cause, fault_seen, refusal_seen}
use Rattle.basics.specs.laws.Causes.{first_caused_is}
use Rattle.basics.specs.laws.Refusal.{number_above}
use Rattle.drawlog.specs.Log.{directory, count, id_at, start_at, length_at}
use Rattle.drawlog.specs.Refusal.{log_cause, due, entry_cause, first_bad, cause_of}
use Rattle.drawlog.specs.Promise.{Tested, tested_of, tested_seen, seek, found_of, found_seen, listed_of, listed_seen}
use Rattle.drawlog.specs.laws.Refusal.{cause_log, cause_entry, cause_end, cause-none}
use Rattle.drawlog.specs.laws.Promise.{tested_yes, tested_no, found_at, found_none, found_no, listed_at, listed_none}

module _ (s : List ℕ) where
  -- A LOG REFUSED BY f
  module _ (f : Fault) (e : fault_seen f ≡ cause_of s) where
    refused : (cause_of s).refusal ≡ 0 → ⊥
    refused q = omega (arith, number_above f.refusal, ap (λ (c : Cause). c.refusal) e)

    pub tested_fault : tested_seen (Err f) ≡ tested_of s
    tested_fault = rw (tested_no s refused, ← e)

    pub found_fault : (id : ℕ) → found_seen (Err f) ≡ found_of s id
    found_fault id = rw (found_no s refused id, ← e)

    pub listed_fault : (k : ℕ) → listed_seen (Err f) ≡ listed_of s k
    listed_fault k = rw (listed_none s k (omega (arith, ap (λ (t : Tested). t.count) tested_fault)), ← tested_fault)

  -- AN ACCEPTED LOG
  module _ (a : no_cause ≡ cause_of s) where
    good : (cause_of s).refusal ≡ 0
    good = ap (λ (c : Cause). c.refusal) (sym a)

    pub tested_good : tested_seen (Ok (count s)) ≡ tested_of s
    tested_good = sym (tested_yes s good)

    pub found_good : (id : ℕ) → seek s id < count s → record { refusal = 0; entry = 0; start = start_at s (seek s id); length = length_at s (seek s id) } ≡ found_of s id
    found_good id h = sym (found_at s good id h)

    pub found_unknown : (id : ℕ) → count s ≤ seek s id → record { refusal = 18; entry = 0; start = 0; length = 0 } ≡ found_of s id
    found_unknown id h = sym (found_none s good id h)

    counted : (tested_of s).count ≡ count s
    counted = ap (λ (t : Tested). t.count) (sym tested_good)

    pub listed_good : (k : ℕ) → k < count s → listed_seen (Ok (Some (record { id = id_at s k; start = start_at s k; length = length_at s k }))) ≡ listed_of s k
    listed_good k h = rw (listed_at s k (omega (arith, counted)), ← tested_good)

    pub listed_past : (k : ℕ) → count s ≤ k → listed_seen (Ok None) ≡ listed_of s k
    listed_past k h = rw (listed_none s k (omega (arith, counted)), ← tested_good)

  -- THE CAUSES, as the code comes to them
  pub whole_fault : {A : Type 0} (r : Result A Refusal) (f : Fault) → MatchResult r (λ x. ◌≡◌ {A = Result A Fault} (Err f) (Ok x)) (λ e. f ≡ record { refusal = e; entry = 0 }) → refusal_seen r ≡ log_cause s → fault_seen f ≡ cause_of s
  whole_fault (Ok x) f h e = absurd (cc)
  whole_fault (Err u) f h e = rw (cause_log s (λ q. omega (arith, number_above u)), ← e, h)

  module _ (a : 0 ≡ log_cause s) where
    pub entry_fault : (k : ℕ) (u : Refusal) → k < count s → ((j : ℕ) → j < k → 0 ≡ entry_cause s j) → number_of u ≡ entry_cause s k → fault_seen (record { refusal = u; entry = k }) ≡ cause_of s
    unfolding first_bad
    entry_fault k u h none e = rw (cause_entry s (sym a) (omega (arith, at)), at, ← e)
      where
        at : first_bad s ≡ k
        at = first_caused_is (entry_cause s) (count s) k (omega arith) (λ j l. sym (none j l)) (inr (λ q. omega (arith, number_above u)))

    none_bad : ((j : ℕ) → j < count s → 0 ≡ entry_cause s j) → first_bad s ≡ count s
    unfolding first_bad
    none_bad none = first_caused_is (entry_cause s) (count s) (count s) (omega arith) (λ j l. sym (none j l)) (inl refl)

    module _ (none : (j : ℕ) → j < count s → 0 ≡ entry_cause s j) where
      pub end_fault : (due s (count s) ≡ directory s → ⊥) → record { refusal = 16; entry = count s } ≡ cause_of s
      end_fault h = sym (cause_end s (sym a) (omega (arith, none_bad none)) h)

      pub no_fault : due s (count s) ≡ directory s → no_cause ≡ cause_of s
      no_fault h = sym (cause-none s (sym a) (omega (arith, none_bad none)) h)

pub ruleset tested = (tested_fault, tested_good)

pub ruleset found = (found_fault, found_good, found_unknown)

pub ruleset listed = (listed_fault, listed_good, listed_past)
