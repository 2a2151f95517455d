-- Equal inputs, equal outcomes of each call: what it promises tells the outcome of the code whole. Assumes nothing.
use Rattle.std.specs.Prelude.{◌≡◌, Result, Ok, Err, List, ℕ}
use Rattle.std.proofs.Common.{ap, arith}
use Rattle.basics.specs.declared.refusal.Refusal.{Refusal}
use Rattle.basics.specs.Refusal.{refusal_seen}
use Rattle.basics.specs.laws.Refusal.{number_above, number_same, refusal_same}
use Rattle.tables.specs.Promise.{Written, written_once, Occurrences, occurrences_seen, occurrence_of, occurrence_once}

-- `suffix`, `shift` and `both`
pub written_outcome : {k : ℕ} {t x d : List ℕ} {r r' : Result (Unit {0}) Refusal} {d₁ d₂ : List ℕ} → Written k t x d (refusal_seen r) d₁
    → Written k t x d (refusal_seen r') d₂ → (r ≡ r') × (d₁ ≡ d₂)
written_outcome {r = r} {r' = r'} p q = let o = written_once p q in (refusal_same r r' o.0, o.1)

-- `occurrence`
pub occurrences_same : (r r' : Result (List ℕ) Refusal) → occurrences_seen r ≡ occurrences_seen r' → r ≡ r'
occurrences_same (Ok t) (Ok t') e = ap (λ (x : Occurrences). Ok x.table) e
occurrences_same (Ok t) (Err f) e = absurd (omega (arith, number_above f, ap (λ (x : Occurrences). x.refusal) e))
occurrences_same (Err f) (Ok t) e = absurd (omega (arith, number_above f, ap (λ (x : Occurrences). x.refusal) e))
occurrences_same (Err f) (Err f') e = ap Err (number_same f f' (ap (λ (x : Occurrences). x.refusal) e))

pub occurrence_outcome : (x : List ℕ) {r r' : Result (List ℕ) Refusal} → occurrences_seen r ≡ occurrence_of x → occurrences_seen r' ≡ occurrence_of x → r ≡ r'
occurrence_outcome x {r} {r'} p q = occurrences_same r r' (occurrence_once x p q)
