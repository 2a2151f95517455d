-- The name of a file beside a log, in the same folder. Assumes nothing.
use Rattle.std.specs.Prelude.{Bool, List, [], ◌∷◌, ◌++◌, ℕ, ◌-◌, eqb, length, take}
use Rattle.basics.specs.Lists.{at}
use Rattle.basics.specs.Search.{greatest}
use Rattle.lines.specs.Digits.{digits}

-- the byte that ends a folder's name
abbrev pub slash : ℕ
slash = 47

-- byte k − 1 of the path w is a slash
abbrev pub slash_before : List ℕ → ℕ → Bool
slash_before w k = eqb (at w (k - 1)) slash

-- how many bytes of the path name its folder: up to the last slash, with it; 0 where there is none
unfoldable pub folder_end : List ℕ → ℕ
folder_end w = greatest (slash_before w) (length w)

-- ".bind-"
abbrev pub bind_word : List ℕ
bind_word = 46 ∷ 98 ∷ 105 ∷ 110 ∷ 100 ∷ 45 ∷ []

abbrev pub dash : List ℕ
dash = 45 ∷ []

-- the folder of the log, ".bind-", and two numbers with a dash between them
unfoldable pub beside_name : List ℕ → ℕ → ℕ → List ℕ
beside_name log m n = (((take (folder_end log) log ++ bind_word) ++ digits m) ++ dash) ++ digits n
