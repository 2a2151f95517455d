-- The longest common ending of two beginnings of lists. Assumes nothing.
use Rattle.std.specs.Prelude.{◌≡◌, refl, true, false, List, eqb, length}
use Rattle.std.proofs.Common.{sym, ap, ◌∙◌, inl, inr, ⊎_elim, zero-add, eq-or-lt_of_le, eq-eqb, ne_eqb}
use Prim.Native.Nat.{ℕ, zero, suc, ◌+◌, ◌-◌, ◌≤◌, ◌<◌, zero-le}
use Rattle.std.proofs.Math.Nat.{sub-zero, suc-sub-suc}
use native.Mathlib.Omega.{arith}
use Rattle.basics.specs.Lists.{at, same}
use Rattle.basics.specs.laws.Tests.{eqb-case}
use Rattle.tables.specs.Suffix.{suffix_at}
use Rattle.tables.specs.laws.Suffix.{suffix_is}

-- the length of the longest common suffix of the first p bytes of a and the first q bytes of b
unfoldable pub run : List ℕ → List ℕ → ℕ → ℕ → ℕ
run a b zero q = 0
run a b (suc p) zero = 0
run a b (suc p) (suc q) = elim (eqb (at a p) (at b q)) [ true ↦ suc (run a b p q) | false ↦ 0 ]

module _ (a b : List ℕ) where
  pub run_yes : (p q : ℕ) → at a p ≡ at b q → run a b (suc p) (suc q) ≡ suc (run a b p q)
  unfolding run
  run_yes p q e = rw (eq-eqb (at a p) (at b q) e, run)

  pub run_no : (p q : ℕ) → (at a p ≡ at b q → ⊥) → run a b (suc p) (suc q) ≡ 0
  unfolding run
  run_no p q n = rw (ne_eqb (at a p) (at b q) n, run)

  pub run_case : (p q : ℕ) (P : ℕ → Type 0) → (at a p ≡ at b q → P (suc (run a b p q))) → ((at a p ≡ at b q → ⊥) → P 0) → P (run a b (suc p) (suc q))
  run_case p q P same diff =
      eqb-case (at a p) (at b q) (λ t. P (run a b (suc p) (suc q))) (λ e. rw (run_yes p q e) (same e)) (λ n. rw (run_no p q n) (diff n))

  pub run_le_left : (p q : ℕ) → run a b p q ≤ p
  unfolding run
  run_le_left zero q = zero-le
  run_le_left (suc p) zero = zero-le
  run_le_left (suc p) (suc q) = run_case p q (λ v. v ≤ suc p) (λ e. omega (arith, run_le_left p q)) (λ e. zero-le)

  pub run_le_right : (p q : ℕ) → run a b p q ≤ q
  unfolding run
  run_le_right zero q = zero-le
  run_le_right (suc p) zero = zero-le
  run_le_right (suc p) (suc q) = run_case p q (λ v. v ≤ suc q) (λ e. omega (arith, run_le_right p q)) (λ e. zero-le)

  -- a known common suffix of k bytes is taken off
  pub run_off : (p q k : ℕ) → k ≤ run a b p q → run a b p q ≡ k + run a b (p - k) (q - k)
  unfolding run
  run_off p q zero h = simp (sub-zero, zero-add)
  run_off zero q (suc k) h = omega arith
  run_off (suc p) zero (suc k) h = omega arith
  run_off (suc p) (suc q) (suc k) h =
      run_case p q
      (λ v. suc k ≤ v → v ≡ suc k + run a b (suc p - suc k) (suc q - suc k))
      (λ e h'. rw (suc-sub-suc p k, suc-sub-suc q k) (omega (arith, run_off p q k (omega arith))))
      (λ e h'. omega arith)
      h

pub run_sym : (a b : List ℕ) (p q : ℕ) → run a b p q ≡ run b a q p
unfolding run
run_sym a b zero zero = refl
run_sym a b zero (suc q) = refl
run_sym a b (suc p) zero = refl
run_sym a b (suc p) (suc q) =
    run_case a b p q (λ v. v ≡ run b a (suc q) (suc p))
    (λ e. run_case b a q p (λ v. suc (run a b p q) ≡ v) (λ e'. ap suc (run_sym a b p q)) (λ n. absurd (n (sym e))))
    (λ n. run_case b a q p (λ v. 0 ≡ v) (λ e. absurd (n (sym e))) (λ n'. refl))

-- of three prefixes: what ends both the first two and the last two ends the first and the last
pub run_trans : (a b c : List ℕ) (p q r k : ℕ) → k ≤ run a b p q → k ≤ run b c q r → k ≤ run a c p r
unfolding run
run_trans a b c p q r zero h g = zero-le
run_trans a b c zero q r (suc k) h g = omega arith
run_trans a b c (suc p) zero r (suc k) h g = omega arith
run_trans a b c (suc p) (suc q) zero (suc k) h g = omega arith
run_trans a b c (suc p) (suc q) (suc r) (suc k) h g =
    run_case a b p q (λ v. suc k ≤ v → suc k ≤ run a c (suc p) (suc r))
    (λ e₁ h'.
    run_case b c q r (λ v. suc k ≤ v → suc k ≤ run a c (suc p) (suc r))
    (λ e₂ g'. run_case a c p r (λ v. suc k ≤ v) (λ e₃. omega (arith, run_trans a b c p q r k (omega arith) (omega arith))) (λ n₃. absurd (n₃ (e₁ ∙ e₂))))
    (λ n₂ g'. omega arith)
    g)
    (λ n₁ h'. omega arith)
    h

-- where the first two share more than the last two, the first and the last share what the last two do
pub run_less : (a b c : List ℕ) (p q r : ℕ) → run b c q r < run a b p q → run a c p r ≡ run b c q r
unfolding run
run_less a b c zero q r h = omega arith
run_less a b c (suc p) zero r h = omega arith
run_less a b c (suc p) (suc q) zero h = refl
run_less a b c (suc p) (suc q) (suc r) h =
    run_case a b p q (λ v. run b c (suc q) (suc r) < v → run a c (suc p) (suc r) ≡ run b c (suc q) (suc r))
    (λ e₁ h'.
    run_case b c q r (λ v. v < suc (run a b p q) → run a c (suc p) (suc r) ≡ v)
    (λ e₂ g'. run_case a c p r (λ v. v ≡ suc (run b c q r)) (λ e₃. ap suc (run_less a b c p q r (omega arith))) (λ n₃. absurd (n₃ (e₁ ∙ e₂))))
    (λ n₂ g'. run_case a c p r (λ v. v ≡ 0) (λ e₃. absurd (n₂ (sym e₁ ∙ e₃))) (λ n₃. refl))
    h')
    (λ n₁ h'. omega arith)
    h

-- Within the run the bytes agree, and the bytes in front of it do not. Places are given by sums
pub run_agrees : (a b : List ℕ) (p q t u v : ℕ) → t < run a b p q → u + suc t ≡ p → v + suc t ≡ q → at a u ≡ at b v
unfolding run
run_agrees a b zero q t u v h e f = absurd (omega arith)
run_agrees a b (suc p) zero t u v h e f = absurd (omega arith)
run_agrees a b (suc p) (suc q) zero u v h e f =
    run_case a b p q (λ n. 0 < n → at a u ≡ at b v)
    (λ c g. let i : u ≡ p = omega arith in let k : v ≡ q = omega arith in rw (i, k) c)
    (λ n g. absurd (omega arith))
    h
run_agrees a b (suc p) (suc q) (suc t) u v h e f =
    run_case a b p q (λ n. suc t < n → at a u ≡ at b v)
    (λ c g. run_agrees a b p q t u v (omega arith) (omega arith) (omega arith))
    (λ n g. absurd (omega arith))
    h

pub run_stops : (a b : List ℕ) (p q k u v : ℕ) → k ≡ run a b p q → u + suc k ≡ p → v + suc k ≡ q → at a u ≡ at b v → ⊥
unfolding run
run_stops a b zero q k u v e f g = absurd (omega arith)
run_stops a b (suc p) zero k u v e f g = absurd (omega arith)
run_stops a b (suc p) (suc q) k u v e f g =
    run_case a b p q (λ n. k ≡ n → at a u ≡ at b v → ⊥)
    (λ c w. run_stops a b p q (run a b p q) u v refl (omega arith) (omega arith))
    (λ n w c. let i : u ≡ p = omega arith in let k : v ≡ q = omega arith in n (rw (i, k) at c))
    e

-- THE LAW THAT JOINS THE NOTATIONS: the suffix entry is a run of the probe against itself
pub suffix_run : (x : List ℕ) (i : ℕ) → i < length x → suffix_at x i ≡ run x x (suc i) (length x)
suffix_run x i h =
    let k : ℕ = run x x (suc i) (length x) in
    let l : k ≤ suc i = run_le_left x x (suc i) (length x) in
    suffix_is x i h k l
    (λ t g u v p q. run_agrees x x (suc i) (length x) t u v g (omega arith) (omega arith))
    (⊎_elim (λ (e : k ≡ suc i). inl e)
    (λ (g : k < suc i). inr (λ a. run_stops x x (suc i) (length x) k (i - k) (length x - 1 - k) refl (omega arith) (omega arith) (a (i - k) (length x - 1 - k) (omega arith) (omega arith))))
    (eq-or-lt_of_le l))
