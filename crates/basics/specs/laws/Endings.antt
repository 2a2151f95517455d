-- The longest common ending of x[0..p−1] and y[0..q−1], as a search downward from the two ends finds it. Assumes nothing.
use Rattle.std.specs.Prelude.{◌≡◌, ◌⊎◌, Bool, true, List, ℕ, ◌+◌, ◌-◌, ◌≤◌, ◌<◌, length}
use Rattle.std.proofs.Common.{⊎_elim, arith}
use Rattle.std.proofs.Math.Seq.{slice}
use Rattle.basics.specs.Search.{greatest}
use Rattle.basics.specs.Lists.{at, same}
use Rattle.basics.specs.laws.Tests.{is_false}
use Rattle.basics.specs.laws.Search.{greatest_is}
use Rattle.basics.specs.laws.Lists.{slices_same, slices_agree}

-- the entries t places before the two ends are equal. Places are given by sums, of which `omega` takes more than of differences
abbrev pub Level : List ℕ → ℕ → List ℕ → ℕ → ℕ → Type 0
Level x p y q t = (u v : ℕ) → u + t + 1 ≡ p → v + t + 1 ≡ q → at x u ≡ at y v

module _ (x : List ℕ) (p : ℕ) (y : List ℕ) (q : ℕ) (px : p ≤ length x) (qy : q ≤ length y) where
  -- both end in the same k entries
  abbrev alike : ℕ → Bool
  alike k = same (slice (p - k) p x) (slice (q - k) q y)

  pub endings_same : (k : ℕ) → k ≤ p → k ≤ q → ((t : ℕ) → t < k → Level x p y q t) → alike k ≡ true
  endings_same k kp kq h =
      slices_same x y (p - k) p (q - k) q k (omega arith) (omega arith) px qy
      (λ t l. h (k - 1 - t) (omega arith) (p - k + t) (q - k + t) (omega arith) (omega arith))

  pub endings_agree : (k t : ℕ) → k ≤ p → k ≤ q → t < k → alike k ≡ true → Level x p y q t
  endings_agree k t kp kq l e u v a b =
      let s : ℕ = k - 1 - t in
      let eu : p - k + s ≡ u = omega arith in
      let ev : q - k + s ≡ v = omega arith in
      rw (eu, ev) at (slices_agree x y (p - k) p (q - k) q k (omega arith) (omega arith) px qy e s (omega arith))

  -- among the lengths up to n: k entries agree, and those before them do not, or do not count
  pub longest_is : (n k : ℕ) → n ≤ p → n ≤ q → k ≤ n → ((t : ℕ) → t < k → Level x p y q t) → (k ≡ n) ⊎ (Level x p y q k → ⊥) → greatest alike n ≡ k
  longest_is n k np nq l h stop =
      greatest_is alike n k l (endings_same k (omega arith) (omega arith) h)
      (λ j u v. is_false (alike j) (λ e. ⊎_elim (λ (w : k ≡ n). omega arith) (λ differ. differ (endings_agree j k (omega arith) (omega arith) u e)) stop))
