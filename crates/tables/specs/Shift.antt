-- The shift table of a probe x of m bytes. Assumes nothing.
--
--     x             . . . . . a v v v v        a window stopped at i, where x has a = x[i]; v = x[i+1..m−1]
--     x, s further        . . b v v v v . .    s ≤ i: v stands again, behind another byte, b = x[i−s]
--     x, s further                  v v . . . . . . .    s > i: x begins with the last m − s bytes of x
use Rattle.std.specs.Prelude.{Bool, not, ◌&&◌, cond, List, ℕ, ◌+◌, ◌-◌, eqb, leb, length}
use Rattle.std.proofs.Math.Seq.{slice}
use Rattle.basics.specs.Search.{least}
use Rattle.basics.specs.Lists.{at, same, table}

-- If s ≤ i: x[i−s+1..m−s−1] equals x[i+1..m−1], and x[i−s] differs from x[i].
unfoldable pub fits_near : List ℕ → ℕ → ℕ → Bool
fits_near x i s = same (slice (i - s + 1) (length x - s) x) (slice (i + 1) (length x) x) && not (eqb (at x (i - s)) (at x i))

-- If s > i: x[0..m−s−1] is a suffix of x (empty for s = m).
unfoldable pub fits_far : List ℕ → ℕ → Bool
fits_far x s = same (slice 0 (length x - s) x) (slice s (length x) x)

-- both conditions
unfoldable pub fits : List ℕ → ℕ → ℕ → Bool
fits x i s = cond (leb s i) (fits_near x i s) (fits_far x s)

-- entry i: the smallest s from 1 to m with both conditions; m always has them
unfoldable pub shift_at : List ℕ → ℕ → ℕ
shift_at x i = least (fits x i) (length x - 1) 1

unfoldable pub shift_table : List ℕ → List ℕ
shift_table x = table (length x) (shift_at x)

-- the period of x: the smallest s from 1 to m such that x[0..m−s−1] is a suffix of x
unfoldable pub period : List ℕ → ℕ
period x = least (fits_far x) (length x - 1) 1
