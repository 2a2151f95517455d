-- The occurrence entry of byte a lies from 1 to m; below m, a stands there; and nothing smaller does. Assumes nothing.
use Rattle.std.specs.Prelude.{◌≡◌, refl, List, ℕ, zero, suc, ◌+◌, ◌-◌, ◌≤◌, ◌<◌, replicate}
use native.Mathlib.Omega.{arith}
use Rattle.std.proofs.Common.{eq-eqb, eqb-true}
use Rattle.std.proofs.Math.ListN.{length}
use Rattle.basics.specs.Lists.{at}
use Rattle.basics.specs.laws.Search.{least_from, least_le, least_passes, least_first}
use Rattle.basics.specs.laws.Lists.{length-table, at_table}
use Rattle.tables.specs.Occurrence.{stands_at, occurrence_at, occurrence_table}
use Rattle.tables.specs.Refusal.{refusal_of}
use Rattle.tables.specs.Promise.{value_after, occurrence_of}

module _ (x : List ℕ) (a : ℕ) where
  pub occurrence_pos : 1 ≤ occurrence_at x a
  unfolding occurrence_at
  occurrence_pos = least_from (stands_at x a) (length x - 1) 1

  pub occurrence_le : 1 ≤ length x → occurrence_at x a ≤ length x
  unfolding occurrence_at
  occurrence_le some = omega (arith, least_le (stands_at x a) (length x - 1) 1)

  pub occurrence_stands : (u : ℕ) → u + occurrence_at x a + 1 ≡ length x → at x u ≡ a
  unfolding occurrence_at stands_at
  occurrence_stands u e =
      let q : length x - 1 - occurrence_at x a ≡ u = omega arith in
      rw q at (eqb-true (at x (length x - 1 - occurrence_at x a)) a (least_passes (stands_at x a) (length x - 1) 1 (omega arith)))

  pub occurrence_first : (u k : ℕ) → 1 ≤ k → u + k + 1 ≡ length x → at x u ≡ a → occurrence_at x a ≤ k
  unfolding occurrence_at stands_at
  occurrence_first u k one e q =
      let p : length x - 1 - k ≡ u = omega arith in
      least_first (stands_at x a) (length x - 1) 1 k one (rw p (eq-eqb (at x u) a q))

-- the table and its entries
pub length-occurrence_table : (x : List ℕ) → length (occurrence_table x) ≡ 256
unfolding occurrence_table
length-occurrence_table x = length-table 256 (occurrence_at x)

pub at-occurrence_table : (x : List ℕ) (a : ℕ) → a < 256 → at (occurrence_table x) a ≡ occurrence_at x a
unfolding occurrence_table
at-occurrence_table x a h = at_table 256 (occurrence_at x) a h

-- what the call answers, by its refusal
pub occurrence_by : (x : List ℕ) (r : ℕ) → r ≡ refusal_of 0 (length x) 0 → record { refusal = r; table = value_after r (occurrence_table x) } ≡ occurrence_of x
unfolding occurrence_of
occurrence_by x r e = rw e

pub value_refused : (r : ℕ) (t : List ℕ) → (r ≡ 0 → ⊥) → replicate 256 0 ≡ value_after r t
value_refused zero t h = absurd (h refl)
value_refused (suc r) t h = refl
