-- The contents of an accepted log s, from which the writer makes it again: the bytes of its blocks, its ids and its lengths. Assumes nothing.
use Rattle.std.specs.Prelude.{List, ℕ, take}
use Rattle.basics.specs.Lists.{table}
use Rattle.drawlog.specs.Log.{directory, count, id_at, length_at}

-- all that stands before the directory
abbrev pub blocks_of : List ℕ → List ℕ
blocks_of s = take (directory s) s

-- of each entry, in directory order
abbrev pub ids_of : List ℕ → List ℕ
ids_of s = table (count s) (id_at s)

abbrev pub lengths_of : List ℕ → List ℕ
lengths_of s = table (count s) (length_at s)
