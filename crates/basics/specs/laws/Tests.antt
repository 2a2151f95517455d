-- Laws of tests. Assumes nothing.
use Rattle.std.specs.Prelude.{◌≡◌, refl, ◌⊎◌, Bool, true, false, ◌&&◌, ℕ, ◌≤◌, ◌<◌, eqb, leb, ltb}
use Rattle.std.proofs.Common.{sym, inl, inr, true≢false, eqb-true, leb-true, leb-false, ltb-true, ltb-false}
use Rattle.std.proofs.lemmas.Bool.{eqb-false}

pub is_false : (b : Bool) → (b ≡ true → ⊥) → b ≡ false
is_false true h = absurd (h refl)
is_false false h = refl

-- two tests that imply each other are one
pub same_test : (a b : Bool) → (a ≡ true → b ≡ true) → (b ≡ true → a ≡ true) → a ≡ b
same_test true true u v = refl
same_test true false u v = sym (u refl)
same_test false true u v = v refl
same_test false false u v = refl

pub and_true_both : (a b : Bool) → (a && b) ≡ true → (a ≡ true) × (b ≡ true)
and_true_both true b e = (refl, e)
and_true_both false b e = absurd (true≢false (sym e))

-- the two cases of a test, with what each tells
pub bool_case {ℓ} : (t : Bool) (P : Bool → Type ℓ) → (t ≡ true → P true) → (t ≡ false → P false) → P t
bool_case true P hit miss = hit refl
bool_case false P hit miss = miss refl

pub eqb-case {ℓ} : (u v : ℕ) (P : Bool → Type ℓ) → (u ≡ v → P true) → ((u ≡ v → ⊥) → P false) → P (eqb u v)
eqb-case u v P hit miss = bool_case (eqb u v) P (λ e. hit (eqb-true u v e)) (λ e. miss (eqb-false u v e))

pub leb-case {ℓ} : (u v : ℕ) (P : Bool → Type ℓ) → (u ≤ v → P true) → (v < u → P false) → P (leb u v)
leb-case u v P hit miss = bool_case (leb u v) P (λ e. hit (leb-true u v e)) (λ e. miss (leb-false u v e))

pub ltb-case {ℓ} : (u v : ℕ) (P : Bool → Type ℓ) → (u < v → P true) → (v ≤ u → P false) → P (ltb u v)
ltb-case u v P hit miss = bool_case (ltb u v) P (λ e. hit (ltb-true u v e)) (λ e. miss (ltb-false u v e))

pub equal_or_not : (u v : ℕ) → (u ≡ v) ⊎ (u ≡ v → ⊥)
equal_or_not u v = eqb-case u v (λ t. (u ≡ v) ⊎ (u ≡ v → ⊥)) (λ e. inl e) (λ n. inr n)

pub le_or_lt : (u v : ℕ) → (u ≤ v) ⊎ (v < u)
le_or_lt u v = leb-case u v (λ t. (u ≤ v) ⊎ (v < u)) (λ l. inl l) (λ l. inr l)
