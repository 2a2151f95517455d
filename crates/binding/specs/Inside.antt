-- An id that is read byte by byte: what stands in front is one number already, at the limit where the text can be no id; and the last slash of
-- a path. Assumes nothing.
use Rattle.std.specs.Prelude.{◌≡◌, true, false, ◌&&◌, cond, List, ℕ, ◌+◌, ◌-◌, ◌*◌, ◌<◌, Option, Some, None, min, ltb, length}
use Rattle.basics.specs.Lists.{at}
use Rattle.lines.specs.Digits.{zero_byte, value_on}
use Rattle.binding.specs.Beside.{slash}
use Rattle.binding.specs.Ids.{Id, limit, is_digit, all_digits}

abbrev pub none : Id
none = record { good = false; value = 0 }

-- the id that the bytes w make behind digits with the value v
unfoldable pub id_on : ℕ → List ℕ → Id
id_on v w = cond (all_digits w && ltb (value_on v w) limit) (record { good = true; value = value_on v w }) none

-- the value v with the byte b behind it; the limit stands for all that is too great, and for what is no digit
unfoldable pub next : ℕ → ℕ → ℕ
next v b = cond (is_digit b) (min (v * 10 + (b - zero_byte)) limit) limit

-- the value that a call answers
abbrev pub next_seen : Option ℕ → ℕ
next_seen (Some v) = v
next_seen None = limit

-- the place of the last slash in the path w; none where there is none
abbrev pub IsLastSlash : List ℕ → Option ℕ → Type 0
IsLastSlash w (Some i) = (i < length w) × (at w i ≡ slash) × ((k : ℕ) → i < k → k < length w → at w k ≡ slash → ⊥)
IsLastSlash w None = (k : ℕ) → k < length w → at w k ≡ slash → ⊥
