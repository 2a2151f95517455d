-- The digits of some numbers, computed from the definition, as one table. Assumes nothing.
use Rattle.std.specs.Prelude.{◌≡◌, refl, List, [], ◌∷◌, map, ℕ}
use Rattle.lines.specs.Digits.{digits_in, digits}

-- a number, and its digits as bytes: 0 is 48, 9 is 57
pub record Row : Type 0 where
  pub number : ℕ
  pub spelt : List ℕ

unfoldable pub rows : List Row
rows =
    record { number = 0; spelt = 48 ∷ [] }
    ∷ record { number = 9; spelt = 57 ∷ [] }
    ∷ record { number = 10; spelt = 49 ∷ 48 ∷ [] }
    ∷ record { number = 64; spelt = 54 ∷ 52 ∷ [] }
    ∷ record { number = 4032; spelt = 52 ∷ 48 ∷ 51 ∷ 50 ∷ [] }
    ∷ record {
      number = 18446744073709551615;
      spelt = 49 ∷ 56 ∷ 52 ∷ 52 ∷ 54 ∷ 55 ∷ 52 ∷ 52 ∷ 48 ∷ 55 ∷ 51 ∷ 55 ∷ 48 ∷ 57 ∷ 53 ∷ 53 ∷ 49 ∷ 54 ∷ 49 ∷ 53 ∷ [];
    }
    ∷ []

pub computed : map (λ (r : Row). digits r.number) rows ≡ map (λ (r : Row). r.spelt) rows
unfolding rows digits digits_in
computed = refl
