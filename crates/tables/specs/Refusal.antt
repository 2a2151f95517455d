-- The refusals that a table call can meet: 1, 2 and 4, in this order. Assumes nothing.
use Rattle.std.specs.Prelude.{cond, ℕ, ◌*◌, eqb, ltb}

-- the most bytes that a probe may have
abbrev pub longest : ℕ
longest = 4096

-- the first cause to refuse a probe of m bytes with a room of n numbers, of which its table takes k for each byte; 0 where there is none
unfoldable pub refusal_of : ℕ → ℕ → ℕ → ℕ
refusal_of k m n =
    cond (eqb m 0) 1
    (cond (ltb longest m) 2
    (cond (ltb n (k * m)) 4
    0))
