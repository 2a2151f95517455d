-- A lent room after a call. Assumes nothing.
use Rattle.std.specs.Prelude.{List, ◌++◌, ◌≡◌, ℕ, zero, suc, ◌≤◌, ◌<◌, length, drop}
use Rattle.basics.specs.Lists.{at}

-- the room d with the list t in front, and the rest as it was
abbrev pub front : List ℕ → List ℕ → List ℕ
front t d = t ++ drop (length t) d

-- the room d after a call that answered the refusal r (0: none): t in front, or the room as it was
abbrev pub room_after : ℕ → List ℕ → List ℕ → List ℕ
room_after zero t d = front t d
room_after (suc r) t d = d

-- the room d has the list t in front
pub record Begins (t d : List ℕ) : Type 0 where
  pub reaches : length t ≤ length d
  pub entry : (k : ℕ) → k < length t → at d k ≡ at t k
