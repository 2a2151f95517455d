-- Lines that several texts have. Assumes nothing.
use Rattle.std.specs.Prelude.{List, [], ◌∷◌, ◌++◌, ℕ}
use Rattle.lines.specs.Digits.{digits}

-- a blank, the end of a line
abbrev pub blank : List ℕ
blank = 32 ∷ []

abbrev pub line_end : List ℕ
line_end = 10 ∷ []

-- a word, which ends in a blank, and two numbers
unfoldable pub numbers_line : List ℕ → ℕ → ℕ → List ℕ
numbers_line w m n = (((w ++ digits m) ++ blank) ++ digits n) ++ line_end
