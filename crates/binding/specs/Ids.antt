-- An id as text: one or more decimal digits that name a number of 32 bits. Zeros may stand in front. Assumes nothing.
use Rattle.std.specs.Prelude.{Bool, true, false, ◌&&◌, cond, List, [], ◌∷◌, ℕ, ◌^◌, Option, Some, None, leb, ltb, length}
use Rattle.lines.specs.Digits.{zero_byte, digit_byte, value}

-- every id is below it
abbrev pub limit : ℕ
limit = 2 ^ 32

-- b is the byte of a digit
abbrev pub is_digit : ℕ → Bool
is_digit b = leb zero_byte b && leb b (digit_byte 9)

unfoldable pub all_digits : List ℕ → Bool
all_digits [] = true
all_digits (b ∷ w) = is_digit b && all_digits w

-- the text w is an id
unfoldable pub is_id : List ℕ → Bool
is_id w = ltb 0 (length w) && (all_digits w && ltb (value w) limit)

-- An id. Where the text is none, the value is 0.
pub record Id : Type 0 where
  pub good : Bool
  pub value : ℕ

-- the id that a call answers
abbrev pub id_seen : Option ℕ → Id
id_seen (Some v) = record { good = true; value = v }
id_seen None = record { good = false; value = 0 }

-- the id, or that there is none
unfoldable pub id_of : List ℕ → Id
id_of w = cond (is_id w) (record { good = true; value = value w }) (record { good = false; value = 0 })
