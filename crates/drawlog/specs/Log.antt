-- A draw log s: the blocks, back to back; the directory, 12 bytes per replicate; the trailer, being the last 12 bytes.
--
--     0                    directory s                                length s - 12          length s
--     | block 0 | block 1 | .. | entry 0: id, start, length | entry 1 | .. | directory, count, mark |
--
-- All numbers are of ℕ, so no sum wraps. Assumes nothing.
use Rattle.std.specs.Prelude.{Bool, List, [], ◌∷◌, ℕ, ◌+◌, ◌-◌, ◌*◌, length, drop}
use Rattle.basics.specs.Lists.{same}
use Rattle.drawlog.specs.declared.layout.Log.{Log}
use Rattle.drawlog.specs.Number.{number}

-- SIZES, MARK AND LIMITS
-- the bytes of a directory entry
abbrev pub entry_size : ℕ
entry_size = 12

-- the bytes of the trailer, which are also the fewest of a log
abbrev pub trailer_size : ℕ
trailer_size = 12

-- the most bytes of a log
abbrev pub longest : ℕ
longest = 65536

-- the most replicates of a log
abbrev pub most : ℕ
most = 64

-- the bytes of a draw
abbrev pub draw_size : ℕ
draw_size = 8

-- 44 52 41 57 hex, "DRAW"
abbrev pub mark : List ℕ
mark = 68 ∷ 82 ∷ 65 ∷ 87 ∷ []

-- THE TRAILER: directory start, count, mark
abbrev pub trailer : List ℕ → ℕ
trailer s = length s - trailer_size

unfoldable pub directory : List ℕ → ℕ
directory s = number s (trailer s)

unfoldable pub count : List ℕ → ℕ
count s = number s (trailer s + 4)

unfoldable pub marked : List ℕ → Bool
marked s = same (drop (trailer s + 8) s) mark

-- what the trailer says, as the log's own type
abbrev pub log_of : List ℕ → Log
log_of s = record { directory = directory s; count = count s }

-- ENTRY k OF THE DIRECTORY: id, start, length in bytes
abbrev pub place : List ℕ → ℕ → ℕ
place s k = directory s + entry_size * k

unfoldable pub id_at : List ℕ → ℕ → ℕ
id_at s k = number s (place s k)

unfoldable pub start_at : List ℕ → ℕ → ℕ
start_at s k = number s (place s k + 4)

unfoldable pub length_at : List ℕ → ℕ → ℕ
length_at s k = number s (place s k + 8)
