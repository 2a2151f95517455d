-- Equal inputs, equal outcomes of each search: what it promises tells the outcome of the code whole. Assumes nothing.
use Rattle.std.specs.Prelude.{◌≡◌, ◌<◌, refl, Option, Some, None, Result, Ok, Err, IfOk, IfSome, List, ℕ}
use Rattle.std.proofs.Common.{ap, arith}
use Rattle.basics.specs.declared.refusal.Refusal.{Refusal}
use Rattle.basics.specs.laws.Refusal.{number_above, number_same}
use Rattle.scans.specs.declared.Answer.{Answer as Six}
use Rattle.scans.specs.declared.Tally.{Tally as Places}
use Rattle.scans.specs.Promise.{Answer, answer_seen, Plainly, plain_once, Rememberingly, remember_once, Tally, tally_seen, Aligning, aligned_once}

-- the six numbers of an answer
six : Answer → Six
six x =
    record {
      occurrences = x.occurrences;
      written = x.written;
      windows = x.windows;
      comparisons = x.comparisons;
      closest = x.closest;
      closest_at = x.closest_at;
    }

-- `plain` and `remember`
pub answer_same : (r r' : Result Six Refusal) → answer_seen r ≡ answer_seen r' → r ≡ r'
unfolding six
answer_same (Ok a) (Ok a') e = ap (λ (x : Answer). Ok (six x)) e
answer_same (Ok a) (Err f) e = absurd (omega (arith, number_above f, ap (λ (x : Answer). x.refusal) e))
answer_same (Err f) (Ok a) e = absurd (omega (arith, number_above f, ap (λ (x : Answer). x.refusal) e))
answer_same (Err f) (Err f') e = ap Err (number_same f f' (ap (λ (x : Answer). x.refusal) e))

pub plain_outcome : {x y t d : List ℕ} {r r' : Result Six Refusal} {t₁ d₁ t₂ d₂ : List ℕ} → Plainly x y t d (answer_seen r) t₁ d₁
    → Plainly x y t d (answer_seen r') t₂ d₂ → (r ≡ r') × (t₁ ≡ t₂) × (d₁ ≡ d₂)
plain_outcome {r = r} {r' = r'} p q = let o = plain_once p q in (answer_same r r' o.0, o.1, o.2)

pub remember_outcome : {x y t e d : List ℕ} {r r' : Result Six Refusal} {t₁ e₁ d₁ t₂ e₂ d₂ : List ℕ} → Rememberingly x y t e d (answer_seen r) t₁ e₁ d₁
    → Rememberingly x y t e d (answer_seen r') t₂ e₂ d₂ → (r ≡ r') × (t₁ ≡ t₂) × (e₁ ≡ e₂) × (d₁ ≡ d₂)
remember_outcome {r = r} {r' = r'} p q = let o = remember_once p q in (answer_same r r' o.0, o.1, o.2, o.3)

-- `aligned`: no tally and a tally of 0 places at 0 are read alike, so its promise that a tally has a place is needed too
pub tally_same : (r r' : Result (Option Places) Refusal) → IfOk r (λ o. IfSome o (λ t. 0 < t.number)) → IfOk r' (λ o. IfSome o (λ t. 0 < t.number))
    → tally_seen r ≡ tally_seen r' → r ≡ r'
tally_same (Ok (Some t)) (Ok (Some t')) s s' e = ap (λ (x : Tally). Ok (Some (record { number = x.number; first = x.first }))) e
tally_same (Ok (Some t)) (Ok None) s s' e = absurd (omega (arith, s, ap (λ (x : Tally). x.number) e))
tally_same (Ok None) (Ok (Some t)) s s' e = absurd (omega (arith, s', ap (λ (x : Tally). x.number) e))
tally_same (Ok None) (Ok None) s s' e = refl
tally_same (Ok (Some t)) (Err f) s s' e = absurd (omega (arith, number_above f, ap (λ (x : Tally). x.refusal) e))
tally_same (Ok None) (Err f) s s' e = absurd (omega (arith, number_above f, ap (λ (x : Tally). x.refusal) e))
tally_same (Err f) (Ok (Some t)) s s' e = absurd (omega (arith, number_above f, ap (λ (x : Tally). x.refusal) e))
tally_same (Err f) (Ok None) s s' e = absurd (omega (arith, number_above f, ap (λ (x : Tally). x.refusal) e))
tally_same (Err f) (Err f') s s' e = ap Err (number_same f f' (ap (λ (x : Tally). x.refusal) e))

pub aligned_outcome : {x y t e : List ℕ} {d : ℕ} {r r' : Result (Option Places) Refusal} {t₁ e₁ t₂ e₂ : List ℕ}
    → Aligning x y t e d (tally_seen r) t₁ e₁ → IfOk r (λ o. IfSome o (λ t. 0 < t.number))
    → Aligning x y t e d (tally_seen r') t₂ e₂ → IfOk r' (λ o. IfSome o (λ t. 0 < t.number))
    → (r ≡ r') × (t₁ ≡ t₂) × (e₁ ≡ e₂)
aligned_outcome {r = r} {r' = r'} p s q s' = let o = aligned_once p q in (tally_same r r' s s' o.0, o.1, o.2)
