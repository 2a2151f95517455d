-- Equal inputs, equal outcomes of the check: the answer tells the outcome of the code whole. Assumes nothing.
use Rattle.std.specs.Prelude.{◌≡◌, Result, Ok, Err, List, ℕ}
use Rattle.std.proofs.Common.{ap, arith}
use Rattle.basics.specs.declared.refusal.Fault.{Fault}
use Rattle.basics.specs.laws.Refusal.{number_above, fault_same}
use Rattle.pairs.specs.declared.Checked.{Checked as Found}
use Rattle.pairs.specs.Promise.{Checked, checked_seen, Checking, check_once}

pub checked_same : (r r' : Result Found Fault) → checked_seen r ≡ checked_seen r' → r ≡ r'
checked_same (Ok c) (Ok c') e = ap (λ (x : Checked). Ok (record { pairs = x.pairs; unprobed = x.unprobed })) e
checked_same (Ok c) (Err f) e = absurd (omega (arith, number_above f.refusal, ap (λ (x : Checked). x.refusal) e))
checked_same (Err f) (Ok c) e = absurd (omega (arith, number_above f.refusal, ap (λ (x : Checked). x.refusal) e))
checked_same (Err f) (Err f') e = ap Err (fault_same f f' (ap (λ (x : Checked). record { refusal = x.refusal; entry = x.entry }) e))

pub check_outcome : {s : List ℕ} {p : ℕ} {t e d : List ℕ} {r r' : Result Found Fault} {t₁ e₁ d₁ t₂ e₂ d₂ : List ℕ} → Checking s p t e d (checked_seen r) t₁ e₁ d₁
    → Checking s p t e d (checked_seen r') t₂ e₂ d₂ → (r ≡ r') × (t₁ ≡ t₂) × (e₁ ≡ e₂) × (d₁ ≡ d₂)
check_outcome {r = r} {r' = r'} p q = let o = check_once p q in (checked_same r r' o.0, o.1, o.2, o.3)
