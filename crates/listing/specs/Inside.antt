-- The pairs as they stand in the check's result room, four numbers each. Assumes nothing.
use Rattle.std.specs.Prelude.{◌≡◌, cond, List, [], ◌∷◌, ℕ, zero, suc, ◌+◌, ◌*◌, eqb, length}
use Rattle.basics.specs.Lists.{at}
use Rattle.basics.specs.Rooms.{Begins}
use Rattle.drawlog.specs.Promise.{tested_of}
use Rattle.pairs.specs.Check.{Pair, pairs, numbers}
use Rattle.pairs.specs.Promise.{step}
use Rattle.listing.specs.Listing.{draws}

-- pair k of the room d
abbrev pub pair_in : List ℕ → ℕ → Pair
pair_in d k = record { owner = at d (4 * k); other = at d (4 * k + 1); first = at d (4 * k + 2); number = at d (4 * k + 3) }

-- of the n pairs from pair k on, those before the first whose owner is not `id`
unfoldable pub owned_from : ℕ → List ℕ → ℕ → ℕ → List Pair
owned_from id d zero k = []
owned_from id d (suc n) k = let rest = owned_from id d n (suc k) in cond (eqb (at d (4 * k)) id) (pair_in d k ∷ rest) []

-- the room d holds the pairs of the log s, which has c replicates, and n is their number
pub record Holds (s : List ℕ) (c : ℕ) (d : List ℕ) (n : ℕ) : Type 0 where
  pub count : c ≡ (tested_of s).count
  pub room : Begins (numbers (pairs step draws s c)) d
  pub number : n ≡ length (pairs step draws s c)
