-- Laws of causes of refusal: numbers of which 0 says that there is none. Assumes nothing.
use Rattle.std.specs.Prelude.{◌≡◌, refl, ◌⊎◌, Bool, true, false, cond, ℕ, ◌≤◌, ◌<◌, eqb}
use Rattle.std.proofs.Math.Path.{ap}
use Rattle.std.proofs.Math.Logic.{inl, inr}
use Rattle.std.proofs.Common.{⊎_elim, arith}
use Rattle.std.proofs.Math.Bool.{not}
use borrow.Author.Tests.{eq-eqb, ne_eqb, eqb-true, eqb-false, not-true, not-false}
use Rattle.basics.specs.Search.{first_caused}
use Rattle.basics.specs.laws.Search.{least_is, least_before, least_passes}

-- where the whole answer is 0, a test that would name a cause has failed, and the later ones answer 0
pub passed : (test : Bool) (n rest : ℕ) → 0 < n → cond test n rest ≡ 0 → (test ≡ false) × (rest ≡ 0)
passed true n rest named h = absurd (omega arith)
passed false n rest named h = (refl, h)

-- THE FIRST ENTRY that has a cause
module _ (cause : ℕ → ℕ) (n : ℕ) where
  -- is what a search upward from entry 0 finds
  pub first_caused_is : (k : ℕ) → k ≤ n → ((j : ℕ) → j < k → cause j ≡ 0) → (k ≡ n) ⊎ (cause k ≡ 0 → ⊥) → first_caused cause n ≡ k
  unfolding first_caused
  first_caused_is k h none stop =
      least_is (λ j. not (eqb (cause j) 0)) n 0 k (omega arith) (omega arith)
      (λ j u v. ap not (eq-eqb (cause j) 0 (none j v)))
      (⊎_elim (λ (q : k ≡ n). inl (omega arith)) (λ (q : cause k ≡ 0 → ⊥). inr (ap not (ne_eqb (cause k) 0 q))) stop)

  -- has one, if it is among the n
  pub first_caused_has : first_caused cause n < n → cause (first_caused cause n) ≡ 0 → ⊥
  unfolding first_caused
  first_caused_has l = eqb-false _ _ (not-true _ (least_passes (λ k. not (eqb (cause k) 0)) n 0 (omega arith)))

  -- and if it is not, no entry has one
  pub none_caused : n ≤ first_caused cause n → (k : ℕ) → k < n → cause k ≡ 0
  unfolding first_caused
  none_caused l k u = eqb-true _ _ (not-false _ (least_before (λ k. not (eqb (cause k) 0)) n 0 k (omega arith) (omega arith)))
