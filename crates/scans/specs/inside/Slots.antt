-- Where a text position stands in the memory room, a room of m entries: position h at slot h mod m. Assumes nothing.
--
--     position   0 1 .. m−1 | m m+1 .. 2m−1 | 2m ..      An entry is its position and the length added. Another position of the slot lies m
--     slot       0 1 .. m−1 | 0  1  ..  m−1 | 0  ..      or more before h, and a length is at most m: what was left there is at most h, and reads as 0.
use Rattle.std.specs.Prelude.{◌≡◌, List, ℕ, ◌+◌, ◌-◌, ◌%◌, set}
use Rattle.basics.specs.Lists.{at}
use Rattle.scans.specs.declared.memory.Place.{Place}

-- the length remembered at h: the entry less its position
abbrev pub recalled : List ℕ → ℕ → ℕ → ℕ
recalled mem m h = at mem (h % m) - h

-- the room with v remembered at h
abbrev pub remembered : List ℕ → ℕ → ℕ → ℕ → List ℕ
remembered mem m h v = set mem (h % m) (h + v)

-- a text position with its slot
abbrev pub place_of : ℕ → ℕ → Place
place_of m h = record { at = h; slot = h % m }

-- p is the place of h
pub record Stands (m h : ℕ) (p : Place) : Type 0 where
  pub is : p ≡ place_of m h
