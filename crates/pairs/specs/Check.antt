-- The overlap check of the log s: which pairs of replicates overlap, over the log's entries and the occurrences of a probe. Nothing of a scan is in it.
-- Assumes nothing.
use Rattle.std.specs.Prelude.{Bool, cond, List, [], ◌∷◌, ◌++◌, ℕ, zero, suc, ◌+◌, ◌*◌, eqb, leb, length, take, drop}
use Rattle.scans.specs.Occurrences.{occurrences, multiples}
use Rattle.drawlog.specs.Log.{draw_size, count, id_at, start_at, length_at}

-- the bytes of block k
abbrev pub block : List ℕ → ℕ → List ℕ
block s k = take (length_at s k) (drop (start_at s k) s)

-- the bytes of a probe of p draws
abbrev pub probe_size : ℕ → ℕ
probe_size p = draw_size * p

-- THE PROBE of owner a is the first 8p bytes of its block
abbrev pub probe : ℕ → List ℕ → ℕ → List ℕ
probe p s a = take (probe_size p) (block s a)

-- an owner with a shorter block is unprobed
abbrev pub probed : ℕ → List ℕ → ℕ → Bool
probed p s a = leb (probe_size p) (length_at s a)

-- AN OVERLAPPING PAIR: the ids of owner and searched block, the first offset in the searched block, and the occurrences
pub record Pair : Type 0 where
  pub owner : ℕ
  pub other : ℕ
  pub first : ℕ
  pub number : ℕ

-- the ids i and j overlap where there are offsets at which the probe occurs
unfoldable pub pair_at : ℕ → ℕ → List ℕ → List Pair
pair_at i j [] = []
pair_at i j (f ∷ fs) = record { owner = i; other = j; first = f; number = length (f ∷ fs) } ∷ []

-- the offsets that are multiples of d, at which the probe x occurs in block b; an owner a is not paired with itself
unfoldable pub pair_with : ℕ → List ℕ → List ℕ → ℕ → ℕ → List Pair
pair_with d x s a b = cond (eqb a b) [] (pair_at (id_at s a) (id_at s b) (multiples d (occurrences x (block s b))))

-- the pairs of owner a, whose probe is x, with the first n blocks, b ascending
unfoldable pub pairs_with : ℕ → List ℕ → List ℕ → ℕ → ℕ → List Pair
pairs_with d x s a zero = []
pairs_with d x s a (suc b) = pairs_with d x s a b ++ pair_with d x s a b

-- the pairs of owner a with all blocks; none where it is unprobed
unfoldable pub pairs_of : ℕ → ℕ → List ℕ → ℕ → List Pair
pairs_of d p s a = cond (probed p s a) (pairs_with d (probe p s a) s a (count s)) []

-- THE PAIRS of the first n owners, owners ascending
unfoldable pub pairs : ℕ → ℕ → List ℕ → ℕ → List Pair
pairs d p s zero = []
pairs d p s (suc a) = pairs d p s a ++ pairs_of d p s a

-- how many of the first n owners are unprobed
unfoldable pub unprobed : ℕ → List ℕ → ℕ → ℕ
unprobed p s zero = 0
unprobed p s (suc a) = unprobed p s a + cond (probed p s a) 0 1

-- the numbers of the pairs, four for each: owner, searched, first offset, occurrences
unfoldable pub numbers : List Pair → List ℕ
numbers [] = []
numbers (q ∷ qs) = q.owner ∷ q.other ∷ q.first ∷ q.number ∷ numbers qs
