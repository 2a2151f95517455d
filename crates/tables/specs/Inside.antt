-- Words of the private functions' contracts: one half of a room of pairs, and pairs that stay in their room. Assumes nothing.
use Rattle.std.specs.Prelude.{◌≡◌, List, ℕ, ◌+◌, ◌*◌}
use Rattle.tables.specs.declared.room.Pairs.{Pairs}
use Rattle.basics.specs.Lists.{at, table}
use Rattle.basics.specs.Rooms.{front}
use Rattle.tables.specs.Both.{firsts, seconds}

-- the room d' is d with the list t in front of its firsts, and its seconds as they were
pub record Firstly (t d d' : List ℕ) : Type 0 where
  pub written : firsts d' ≡ front t (firsts d)
  pub others : seconds d' ≡ seconds d

-- the room d' is d with the list t in front of its seconds, and its firsts as they were
pub record Secondly (t d d' : List ℕ) : Type 0 where
  pub written : seconds d' ≡ front t (seconds d)
  pub others : firsts d' ≡ firsts d

-- every second number of the room d, from number `from` on: m of them
abbrev pub every_second : ℕ → List ℕ → ℕ → List ℕ
every_second from d m = table m (λ i. at d (from + 2 * i))

-- the pairs q are in the room of the pairs p, and of the same probe
pub record Stays (p q : Pairs) : Type 0 where
  pub probe : q.x ≡ p.x
  pub room : q.room.ghost_name ≡ p.room.ghost_name
