-- The plain scan of stream y for probe x. Assumes nothing.
use Rattle.std.specs.Prelude.{true, false, List, [], ◌∷◌, ℕ, zero, suc, ◌+◌, ◌-◌, eqb, leb, length}
use Rattle.basics.specs.Lists.{at}
use Rattle.scans.specs.Trace.{matched, stopped, Pass, more, Window, window}
use Rattle.scans.specs.Move.{move}

-- Window j with the bytes from index k on equal: compare y[j+i] with x[i], for i from k − 1 downward, until bytes differ or all are equal.
unfoldable pub plain_from : List ℕ → List ℕ → ℕ → ℕ → Pass
plain_from x y j zero = record { end = matched; comps = 0; kept = length x }
plain_from x y j (suc i) =
    elim (eqb (at y (j + i)) (at x i)) [
      | true ↦ more (plain_from x y j i)
      | false ↦ record { end = stopped i; comps = 1; kept = length x - 1 - i }
    ]

-- the whole window
abbrev pub plain_pass : List ℕ → List ℕ → ℕ → Pass
plain_pass x y j = plain_from x y j (length x)

-- While j ≤ n − m: visit window j, and move. The first number is fuel: more than the windows there can be.
unfoldable pub plain_scan : List ℕ → List ℕ → ℕ → ℕ → List Window
plain_scan x y zero j = []
plain_scan x y (suc f) j =
    elim (leb (j + length x) (length y)) [
      | true ↦ window (length x) j (plain_pass x y j) ∷ plain_scan x y f (j + move x y j (plain_pass x y j).end)
      | false ↦ []
    ]

-- start at window j = 0
unfoldable pub plain : List ℕ → List ℕ → List Window
plain x y = plain_scan x y (suc (length y)) 0
