-- Where the probe x occurs in the stream y. Nothing of a scan is in it. Assumes nothing.
use Rattle.std.specs.Prelude.{Bool, true, false, ◌&&◌, List, [], ◌∷◌, ℕ, zero, suc, ◌+◌, ◌%◌, eqb, leb, length}
use Rattle.std.proofs.Math.Seq.{slice}
use Rattle.basics.specs.Lists.{same}

-- the m bytes of y at j are x
unfoldable pub occurs_at : List ℕ → List ℕ → ℕ → Bool
occurs_at x y j = leb (j + length x) (length y) && same (slice j (j + length x) y) x

-- those of the places j, j + 1, .. at which it occurs, c of them tried
unfoldable pub occurs_from : List ℕ → List ℕ → ℕ → ℕ → List ℕ
occurs_from x y zero j = []
occurs_from x y (suc c) j = elim (occurs_at x y j) [ true ↦ j ∷ occurs_from x y c (suc j) | false ↦ occurs_from x y c (suc j) ]

-- all places, overlapping ones too, ascending
unfoldable pub occurrences : List ℕ → List ℕ → List ℕ
occurrences x y = occurs_from x y (suc (length y)) 0

-- j is a multiple of d; of 0, only 0 is
abbrev pub on_step : ℕ → ℕ → Bool
on_step d j = eqb (j % d) 0

-- the multiples of d among the places
unfoldable pub multiples : ℕ → List ℕ → List ℕ
multiples d [] = []
multiples d (j ∷ ps) = elim (on_step d j) [ true ↦ j ∷ multiples d ps | false ↦ multiples d ps ]

-- the first of a list; 0 where it has none
abbrev pub first_of : List ℕ → ℕ
first_of [] = 0
first_of (j ∷ ps) = j
