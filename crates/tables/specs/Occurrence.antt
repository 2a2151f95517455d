-- The occurrence table of a probe x of m bytes: 256 entries, one for each byte. Assumes nothing.
--
--     x  . . a . . .        the last a before the last place of x, k places before it
--            |<-k->|        the last place itself does not count
use Rattle.std.specs.Prelude.{Bool, List, ℕ, ◌-◌, eqb, length}
use Rattle.basics.specs.Search.{least}
use Rattle.basics.specs.Lists.{at, table}

-- x[m−1−k] = a
unfoldable pub stands_at : List ℕ → ℕ → ℕ → Bool
stands_at x a k = eqb (at x (length x - 1 - k)) a

-- the entry of byte a: the smallest k from 1 to m − 1 with x[m−1−k] = a; m where there is none
unfoldable pub occurrence_at : List ℕ → ℕ → ℕ
occurrence_at x a = least (stands_at x a) (length x - 1) 1

unfoldable pub occurrence_table : List ℕ → List ℕ
occurrence_table x = table 256 (occurrence_at x)
