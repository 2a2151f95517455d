-- The log that is made of the block bytes b, the ids is and the lengths ns: the blocks, the directory, the trailer. All numbers are of ℕ, so no sum wraps. Assumes nothing.
use Rattle.std.specs.Prelude.{List, [], ◌++◌, ℕ, zero, suc, ◌+◌, ◌*◌, length}
use Rattle.basics.specs.Lists.{at}
use Rattle.drawlog.specs.Log.{entry_size, trailer_size, mark}
use Rattle.drawlog.specs.Number.{bytes_of}

-- the sum of the first k lengths: where block k starts
unfoldable pub sum_to : List ℕ → ℕ → ℕ
sum_to ns zero = 0
sum_to ns (suc k) = sum_to ns k + at ns k

-- entry k: id, start, length
unfoldable pub entry_bytes : List ℕ → List ℕ → ℕ → List ℕ
entry_bytes is ns k = bytes_of (at is k) ++ (bytes_of (sum_to ns k) ++ bytes_of (at ns k))

-- the first k entries
unfoldable pub directory_bytes : List ℕ → List ℕ → ℕ → List ℕ
directory_bytes is ns zero = []
directory_bytes is ns (suc k) = directory_bytes is ns k ++ entry_bytes is ns k

-- directory start, count, mark
unfoldable pub trailer_bytes : ℕ → ℕ → List ℕ
trailer_bytes directory count = bytes_of directory ++ (bytes_of count ++ mark)

-- the log
unfoldable pub made : List ℕ → List ℕ → List ℕ → List ℕ
made b is ns = b ++ (directory_bytes is ns (length is) ++ trailer_bytes (length b) (length is))

-- its length
abbrev pub size_of : List ℕ → List ℕ → ℕ
size_of b is = length b + entry_size * length is + trailer_size
