-- The decimal digits of a number as bytes, the most significant first; and the number that digits name. Assumes nothing.
use Rattle.std.specs.Prelude.{cond, List, [], ◌∷◌, ◌++◌, ℕ, zero, suc, ◌+◌, ◌-◌, ◌*◌, ◌/◌, ◌%◌, ltb}

-- the byte of the digit 0; the other digits follow it in order
abbrev pub zero_byte : ℕ
zero_byte = 48

abbrev pub digit_byte : ℕ → ℕ
digit_byte d = zero_byte + d

-- the digits w, and the digit d behind them
abbrev pub followed : List ℕ → ℕ → List ℕ
followed w d = w ++ (digit_byte d ∷ [])

-- the digits of n, in at most so many steps: one digit, or those of n / 10 and the last one behind them
unfoldable pub digits_in : ℕ → ℕ → List ℕ
digits_in zero n = []
digits_in (suc steps) n = let earlier = digits_in steps (n / 10) in cond (ltb n 10) (digit_byte n ∷ []) (followed earlier (n % 10))

-- n + 1 steps are enough for n
unfoldable pub digits : ℕ → List ℕ
digits n = digits_in (suc n) n

-- the number that the digits w name when they follow the digits of a
unfoldable pub value_on : ℕ → List ℕ → ℕ
value_on a [] = a
value_on a (b ∷ w) = value_on (a * 10 + (b - zero_byte)) w

-- the number that the digits w name
unfoldable pub value : List ℕ → ℕ
value w = value_on 0 w

-- how many digits a number of 64 bits has at most
abbrev pub most_digits : ℕ
most_digits = 20
