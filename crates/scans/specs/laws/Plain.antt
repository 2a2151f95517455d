-- The plain scan, step by step. Assumes nothing.
use Rattle.std.specs.Prelude.{◌≡◌, refl, List, [], ◌∷◌, ℕ, zero, suc, ◌+◌, ◌-◌, ◌≤◌, ◌<◌}
use Rattle.std.proofs.Common.{zero-le, arith, eq-eqb, ne_eqb, le-leb}
use Rattle.std.proofs.lemmas.Bool.{lt-leb}
use Rattle.std.proofs.Math.ListN.{length}
use Rattle.basics.specs.Lists.{at, same}
use Rattle.basics.specs.laws.Tests.{eqb-case}
use Rattle.scans.specs.Trace.{stopped, Pass, more, window}
use Rattle.scans.specs.Move.{move}
use Rattle.scans.specs.Plain.{plain_from, plain_pass, plain_scan}

module _ (x y : List ℕ) (j i : ℕ) where
  -- the plain window's steps
  pub plain-same : at y (j + i) ≡ at x i → plain_from x y j (suc i) ≡ more (plain_from x y j i)
  unfolding plain_from
  plain-same e = rw (eq-eqb (at y (j + i)) (at x i) e, plain_from)

  pub plain_diff : (at y (j + i) ≡ at x i → ⊥) → plain_from x y j (suc i) ≡ record { end = stopped i; comps = 1; kept = length x - 1 - i }
  unfolding plain_from
  plain_diff n = rw (ne_eqb (at y (j + i)) (at x i) n, plain_from)

  pub plain_case : (P : Pass → Type 0)
      → (at y (j + i) ≡ at x i → P (more (plain_from x y j i)))
      → ((at y (j + i) ≡ at x i → ⊥) → P (record { end = stopped i; comps = 1; kept = length x - 1 - i }))
      → P (plain_from x y j (suc i))
  plain_case P same diff =
      eqb-case (at y (j + i)) (at x i) (λ t. P (plain_from x y j (suc i))) (λ e. rw (plain-same e) (same e)) (λ n. rw (plain_diff n) (diff n))

pub plain_comps : (x y : List ℕ) (j k : ℕ) → (plain_from x y j k).comps ≤ k
unfolding plain_from
plain_comps x y j zero = zero-le
plain_comps x y j (suc i) = plain_case x y j i (λ w. w.comps ≤ suc i) (λ e. omega (arith, plain_comps x y j i)) (λ n. omega arith)

-- a scan's step and its end
module _ (x y : List ℕ) (f j : ℕ) where
  pub plain_step : j + length x ≤ length y → plain_scan x y (suc f) j ≡ window (length x) j (plain_pass x y j) ∷ plain_scan x y f (j + move x y j (plain_pass x y j).end)
  unfolding plain_scan
  plain_step h = rw (le-leb (j + length x) (length y) h, plain_scan)

  pub plain_done : length y < j + length x → plain_scan x y (suc f) j ≡ []
  unfolding plain_scan
  plain_done h = rw (lt-leb (j + length x) (length y) h, plain_scan)

-- with no fuel left a scan has no window either
pub plain_end : (x y : List ℕ) (f j : ℕ) → length y < j + length x → plain_scan x y f j ≡ []
unfolding plain_scan
plain_end x y zero j h = refl
plain_end x y (suc f) j h = plain_done x y f j h
