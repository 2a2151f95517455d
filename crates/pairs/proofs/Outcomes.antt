-- The outcomes of the code, by their cases, as what the definitions say. Assumes nothing.
use Rattle.std.proofs.Common.{◌≡◌, true, Option, Some, None, Result, Ok, Err, List, ℕ, ◌<◌, MatchResult, sym, ap, ◌∙◌, arith, refl}
use Rattle.std.specs.Result.{is_ok, IsOk}
use Rattle.std.specs.Option.{IsSome}
use Rattle.basics.specs.declared.refusal.Refusal.{Refusal}
use Rattle.basics.specs.declared.refusal.Fault.{Fault}
use Rattle.basics.specs.Refusal.{no_cause, fault_seen, refusal_seen}
use Rattle.basics.specs.laws.Refusal.{number_above}
use Rattle.scans.specs.declared.Tally.{Tally as Places}
use Rattle.scans.specs.Promise.{tally_seen}
use Rattle.drawlog.specs.declared.layout.Entry.{Entry}
use Rattle.drawlog.specs.Log.{id_at}
use Rattle.drawlog.specs.Promise.{tested_of, tested_seen, Listed, listed_of, listed_seen}
use Rattle.drawlog.specs.laws.Promise.{listed_at}
use Rattle.pairs.specs.Refusal.{own_cause, cause_of}
use Rattle.pairs.specs.laws.Refusal.{cause_log, cause_own}

-- THE CAUSES, as the code comes to them
module _ (s : List ℕ) (p t e n : ℕ) where
  pub log_fault : (f : Fault) → tested_seen (Err f) ≡ tested_of s → fault_seen f ≡ cause_of (tested_of s) p t e n
  log_fault f q = rw (← q) (sym (cause_log (tested_seen (Err f)) p t e n (λ z. omega (arith, number_above f.refusal))))

  module _ (c : ℕ) (q : tested_seen (Ok c) ≡ tested_of s) (r : Result (Unit {0}) Refusal) (o : refusal_seen r ≡ own_cause p t e n c) where
    own : record { refusal = refusal_seen r; entry = 0 } ≡ cause_of (tested_of s) p t e n
    own = rw (← q) (ap (λ k. record { refusal = k; entry = 0 }) o ∙ sym (cause_own (tested_seen (Ok c)) p t e n refl))

    pub own_fault : (f : Fault) → MatchResult r (λ x. ◌≡◌ {A = Result (Unit {0}) Fault} (Err f) (Ok x)) (λ u. f ≡ record { refusal = u; entry = 0 }) → fault_seen f ≡ cause_of (tested_of s) p t e n
    own_fault f h = go r h own
      where
        go : (r : Result (Unit {0}) Refusal) → MatchResult r (λ x. ◌≡◌ {A = Result (Unit {0}) Fault} (Err f) (Ok x)) (λ u. f ≡ record { refusal = u; entry = 0 })
            → record { refusal = refusal_seen r; entry = 0 } ≡ cause_of (tested_of s) p t e n → fault_seen f ≡ cause_of (tested_of s) p t e n
        go (Ok x) h o = absurd (cc)
        go (Err u) h o = rw h o

    pub no_fault : is_ok r ≡ true → no_cause ≡ cause_of (tested_of s) p t e n
    no_fault k = rw (none r k) at own
      where
        none : (r : Result (Unit {0}) Refusal) → is_ok r ≡ true → refusal_seen r ≡ 0
        none (Ok x) k = refl
        none (Err u) k = absurd (cc)

-- AN ENTRY of a log that has it
module _ (s : List ℕ) (k : ℕ) (h : k < (tested_of s).count) where
  there : {l : Listed} → l ≡ listed_of s k → l.there ≡ true
  there q = ap (λ (l : Listed). l.there) (q ∙ listed_at s k h)

  pub entry_ok : (r : Result (Option Entry) Fault) → listed_seen r ≡ listed_of s k → IsOk r
  entry_ok (Ok o) q = refl
  entry_ok (Err f) q = absurd (cc (there q))

  pub entry_some : (o : Option Entry) → listed_seen (Ok o) ≡ listed_of s k → IsSome o
  entry_some (Some e) q = refl
  entry_some None q = absurd (cc (there q))

  pub entry_id : (e : Entry) → listed_seen (Ok (Some e)) ≡ listed_of s k → e.id ≡ id_at s k
  entry_id e q = ap (λ (l : Listed). l.id) (q ∙ listed_at s k h)

-- A SCAN that refuses nothing
pub scan_ok : (r : Result (Option Places) Refusal) → (tally_seen r).refusal ≡ 0 → IsOk r
scan_ok (Ok o) z = refl
scan_ok (Err u) z = absurd (omega (arith, number_above u))
