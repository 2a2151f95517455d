-- A 32-bit number among the bytes of a list, low byte first. Assumes nothing.
use Rattle.std.specs.Prelude.{List, [], ◌∷◌, ℕ, ◌+◌, ◌*◌, ◌/◌, ◌%◌}
use Rattle.basics.specs.Lists.{at}

-- the number in the four bytes from byte o on
unfoldable pub number : List ℕ → ℕ → ℕ
number s o = at s o + 256 * (at s (o + 1) + 256 * (at s (o + 2) + 256 * at s (o + 3)))

-- the four bytes of the number n
unfoldable pub bytes_of : ℕ → List ℕ
bytes_of n = n % 256 ∷ n / 256 % 256 ∷ n / 256 / 256 % 256 ∷ n / 256 / 256 / 256 % 256 ∷ []
