-- The occurrences at multiples of a step d, told by a test of each place: how many pass, and the first. Assumes nothing.
use Rattle.std.specs.Prelude.{◌≡◌, refl, Bool, ◌&&◌, List, ◌∷◌}
use Rattle.std.proofs.Common.{◌∙◌, add-zero}
use Rattle.std.proofs.Math.Bool.{true, false, cond}
use Prim.Native.Nat.{ℕ, zero, suc, ◌+◌, ◌≤◌, zero-le}
use Rattle.std.proofs.Math.Nat.{zero-add}
use native.Mathlib.Omega.{arith}
use Rattle.std.proofs.Math.ListN.{length}
use Rattle.basics.specs.Search.{least, how_many}
use Rattle.basics.specs.laws.Tests.{and_true_both, bool_case}
use Rattle.basics.specs.laws.Search.{least_here, least-later, many_first, many_next, many_le, many_none, many_some}
use Rattle.scans.specs.Occurrences.{occurs_at, occurs_from, occurrences, on_step, multiples, first_of}
use Rattle.scans.specs.laws.Occurrences.{occurs_told}

-- a hit: x occurs at j, which is a multiple of d
abbrev pub hit_at : ℕ → List ℕ → List ℕ → ℕ → Bool
hit_at d x y j = occurs_at x y j && on_step d j

-- those of the places j, j + 1, .. that are multiples of d and at which x occurs, c of them tried
abbrev hits : ℕ → List ℕ → List ℕ → ℕ → ℕ → List ℕ
hits d x y c j = multiples d (occurs_from x y c j)

module _ (x y : List ℕ) (d : ℕ) where
  -- ONE PLACE MORE in front
  hits-step : (c j : ℕ) → hits d x y (suc c) j ≡ cond (hit_at d x y j) (j ∷ hits d x y c (suc j)) (hits d x y c (suc j))
  unfolding occurs_from multiples
  hits-step c j =
      let later = hits d x y c (suc j) in
      bool_case (occurs_at x y j)
      (λ t. multiples d (elim t [ true ↦ j ∷ occurs_from x y c (suc j) | false ↦ occurs_from x y c (suc j) ]) ≡ cond (t && on_step d j) (j ∷ later) later)
      (λ e. bool_case (on_step d j) (λ t. elim t [ true ↦ j ∷ later | false ↦ later ] ≡ cond t (j ∷ later) later) (λ q. refl) (λ q. refl))
      (λ e. refl)

  -- a hit lies within the stream
  hit_within : (j : ℕ) → hit_at d x y j ≡ true → j ≤ length y
  hit_within j e = omega (arith, (occurs_told x y j (and_true_both (occurs_at x y j) (on_step d j) e).0).0)

  -- HOW MANY
  step-length : (c j : ℕ) → length (hits d x y (suc c) j) ≡ cond (hit_at d x y j) 1 0 + length (hits d x y c (suc j))
  step-length c j =
      let later = hits d x y c (suc j) in
      rw (hits-step c j) (bool_case (hit_at d x y j) (λ t. length (cond t (j ∷ later) later) ≡ cond t 1 0 + length later) (λ e. omega arith) (λ e. omega arith))

  many_from : (c j : ℕ) → how_many (hit_at d x y) (j + c) ≡ how_many (hit_at d x y) j + length (hits d x y c j)
  unfolding occurs_from multiples
  many_from zero j = rw (add-zero j) (omega arith)
  many_from (suc c) j =
      let e : j + suc c ≡ suc j + c = omega arith in
      rw e (omega (arith, many_from c (suc j), many_next (hit_at d x y) j, step-length c j))

  pub hits-number : length (multiples d (occurrences x y)) ≡ how_many (hit_at d x y) (suc (length y))
  unfolding occurrences
  hits-number = omega (arith, rw zero-add at (many_from (suc (length y)) 0), many_first (hit_at d x y))

  pub multiples_few : length (multiples d (occurrences x y)) ≤ suc (length y)
  multiples_few = omega (arith, hits-number, many_le (hit_at d x y) (suc (length y)))

  -- there are some just where a place is a hit
  pub hits-none : ((j : ℕ) → hit_at d x y j ≡ false) → length (multiples d (occurrences x y)) ≡ 0
  hits-none h = hits-number ∙ many_none (hit_at d x y) (suc (length y)) (λ j l. h j)

  pub hits_some : (j : ℕ) → hit_at d x y j ≡ true → 1 ≤ length (multiples d (occurrences x y))
  hits_some j e = omega (arith, hits-number, many_some (hit_at d x y) (suc (length y)) j (omega (arith, hit_within j e)) e)

  -- THE FIRST
  first_from : (c j : ℕ) → 1 ≤ length (hits d x y c j) → first_of (hits d x y c j) ≡ least (hit_at d x y) c j
  unfolding occurs_from multiples
  first_from zero j h = absurd (omega arith)
  first_from (suc c) j h =
      bool_case (hit_at d x y j) (λ t. first_of (hits d x y (suc c) j) ≡ least (hit_at d x y) (suc c) j)
      (λ e. rw (hits-step c j, e, least_here (hit_at d x y) c j e))
      (λ e. rw (hits-step c j, e, least-later (hit_at d x y) c j e) (first_from c (suc j) (rw (hits-step c j, e) at h)))

  pub hits_first : 1 ≤ length (multiples d (occurrences x y)) → first_of (multiples d (occurrences x y)) ≡ least (hit_at d x y) (suc (length y)) 0
  unfolding occurrences
  hits_first = first_from (suc (length y)) 0

  -- it lies within the stream; so does 0, where there is none
  near : (c j : ℕ) → first_of (hits d x y c j) ≤ length y
  unfolding occurs_from multiples
  near zero j = zero-le
  near (suc c) j =
      let later = hits d x y c (suc j) in
      rw (hits-step c j) (bool_case (hit_at d x y j) (λ t. first_of (cond t (j ∷ later) later) ≤ length y) (hit_within j) (λ e. near c (suc j)))

  pub multiples_near : first_of (multiples d (occurrences x y)) ≤ length y
  unfolding occurrences
  multiples_near = near (suc (length y)) 0
