-- The refusals that a search can meet: 1, 2, 3 and 4, in this order. Assumes nothing.
use Rattle.std.specs.Prelude.{cond, ◌||◌, ℕ, ◌*◌, eqb, ltb}
use Rattle.tables.specs.Refusal.{longest}

-- the most bytes that a stream may have
abbrev pub largest : ℕ
largest = 16777216

-- the first cause to refuse a probe of m bytes, a stream of n, a room of t numbers for both tables, and a memory room of e entries; 0 where there is none
unfoldable pub refusal_of : ℕ → ℕ → ℕ → ℕ → ℕ
refusal_of m n t e =
    cond (eqb m 0) 1
    (cond (ltb longest m) 2
    (cond (ltb largest n) 3
    (cond (ltb t (2 * m) || ltb e m) 4
    0)))
