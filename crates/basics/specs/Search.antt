-- Searches over numbers, by a test. Assumes nothing.
use Rattle.std.specs.Prelude.{Bool, cond, not, ℕ, zero, suc, ◌+◌, eqb}

-- the smallest number from s on that passes the test, among n of them; s + n where none does
unfoldable pub least : (ℕ → Bool) → ℕ → ℕ → ℕ
least p zero s = s
least p (suc n) s = let later = least p n (suc s) in cond (p s) s later

-- the largest number from n down that passes the test; 0 where none does
unfoldable pub greatest : (ℕ → Bool) → ℕ → ℕ
greatest p zero = 0
greatest p (suc n) = let lower = greatest p n in cond (p (suc n)) (suc n) lower

-- how many of the numbers below n pass the test
unfoldable pub how_many : (ℕ → Bool) → ℕ → ℕ
how_many p zero = 0
how_many p (suc n) = how_many p n + cond (p n) 1 0

-- the first of n entries that has a cause of refusal, being a number other than 0; n where none has
unfoldable pub first_caused : (ℕ → ℕ) → ℕ → ℕ
first_caused cause n = least (λ k. not (eqb (cause k) 0)) n 0
