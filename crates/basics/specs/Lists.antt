-- Lists and rows of numbers. Assumes nothing.
use Rattle.std.specs.Prelude.{Bool, true, false, ◌&&◌, List, [], ◌∷◌, ◌++◌, ℕ, zero, suc, eqb, ltb, get_or}

-- what stands at place i
abbrev pub at : List ℕ → ℕ → ℕ
at x i = get_or x i 0

-- two lists are the same
unfoldable pub same : List ℕ → List ℕ → Bool
same [] [] = true
same [] (b ∷ y) = false
same (a ∷ x) [] = false
same (a ∷ x) (b ∷ y) = eqb a b && same x y

-- f 0, f 1, .. f (n − 1)
unfoldable pub table : ℕ → (ℕ → ℕ) → List ℕ
table zero f = []
table (suc n) f = table n f ++ (f n ∷ [])

-- f k is above the number before it; f 0, which has none, always is
unfoldable pub rising : (ℕ → ℕ) → ℕ → Bool
rising f zero = true
rising f (suc k) = ltb (f k) (f (suc k))
