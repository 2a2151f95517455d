-- Both tables of a probe x of m bytes in one room: 2m numbers, suffix entry then shift entry for each index. Assumes nothing.
--
--     index       0       1              m−1
--     room    | s₀ h₀ | s₁ h₁ | .. | sₘ₋₁ hₘ₋₁ | as it was      s the suffix table, h the shift table
use Rattle.std.specs.Prelude.{List, [], ◌∷◌, ℕ}
use Rattle.tables.specs.Suffix.{suffix_table}
use Rattle.tables.specs.Shift.{shift_table}

-- for each index what stands there in s, then what stands there in h; a last one of s alone where h ends before it
unfoldable pub in_pairs : List ℕ → List ℕ → List ℕ
in_pairs [] h = []
in_pairs (a ∷ s) [] = a ∷ []
in_pairs (a ∷ s) (b ∷ h) = a ∷ b ∷ in_pairs s h

unfoldable pub both_tables : List ℕ → List ℕ
both_tables x = in_pairs (suffix_table x) (shift_table x)

-- TAKING PAIRS APART: the first of each
unfoldable pub firsts : List ℕ → List ℕ
firsts [] = []
firsts (a ∷ []) = a ∷ []
firsts (a ∷ b ∷ d) = a ∷ firsts d

-- and the second of each
unfoldable pub seconds : List ℕ → List ℕ
seconds [] = []
seconds (a ∷ []) = []
seconds (a ∷ b ∷ d) = b ∷ seconds d
