-- Words of the private functions' contracts. Assumes nothing.
use Rattle.std.specs.Prelude.{◌≡◌, List, ℕ, ◌+◌, ◌*◌, ◌≤◌, length}
use Rattle.basics.specs.laws.Rooms.{Beyond}
use Rattle.basics.specs.laws.Inlaid.{Inlaid}
use Rattle.scans.specs.Promise.{Tally}
use Rattle.scans.specs.Occurrences.{occurrences, multiples, first_of}
use Rattle.pairs.specs.declared.run.Run.{Run}
use Rattle.pairs.specs.Check.{block, probe_size, Pair, numbers}

-- the two work rooms t, e after searches for a probe of m bytes
pub record Worked (m : ℕ) (t e t' e' : List ℕ) : Type 0 where
  pub tables : Beyond (2 * m) t t'
  pub memory : Beyond m e e'

-- they can be searched with for a probe of m bytes
pub record Ready (m : ℕ) (t e : List ℕ) : Type 0 where
  pub some : 1 ≤ m
  pub short : m ≤ 4096
  pub tables : 2 * m ≤ length t
  pub memory : m ≤ length e

-- one search for the probe x in block b: how many occurrences there are at multiples of d, and the first of them; both fit 32 bits
pub record Sought (d : ℕ) (x s : List ℕ) (b : ℕ) (t e : List ℕ) (r : Tally) (t' e' : List ℕ) : Type 0 where
  pub number : r.number ≡ length (multiples d (occurrences x (block s b)))
  pub first : r.first ≡ first_of (multiples d (occurrences x (block s b)))
  pub few : r.number ≤ 65537
  pub near : r.first ≤ 65536
  pub worked : Worked (length x) t e t' e'

-- the pairs qs found, after k others: they are counted in k', and laid into the result room d behind these
pub record Found (qs : List Pair) (k : ℕ) (d : List ℕ) (k' : ℕ) (d' : List ℕ) : Type 0 where
  pub number : k' ≡ k + length qs
  pub laid : Inlaid d (4 * k) (numbers qs) d'

-- two states of a check: the same log, its count and the same draws, and the same rooms
abbrev pub Same : Run → Run → Type 0
Same u v = (v.log.now ≡ u.log.now) × (v.count ≡ u.count) × (v.p ≡ u.p) × (v.tables.ghost_name ≡ u.tables.ghost_name) × (v.memory.ghost_name ≡ u.memory.ghost_name) × (v.res.ghost_name ≡ u.res.ghost_name)

-- a check goes on from u to v: it finds the pairs qs, and n owners more are unprobed
pub record Onward (qs : List Pair) (n : ℕ) (u v : Run) : Type 0 where
  pub same : Same u v
  pub worked : Worked (probe_size u.p) u.tables.now u.memory.now v.tables.now v.memory.now
  pub found : Found qs u.pairs u.res.now v.pairs v.res.now
  pub unprobed : v.unprobed ≡ u.unprobed + n
