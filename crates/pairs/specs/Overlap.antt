-- Request Two in its own words, a theorem over the definitions: a pair overlaps when the probe occurs at an offset that is a multiple of 8, and its first offset
-- and its occurrences are taken over those only. Assumes nothing.
use Rattle.std.specs.Prelude.{◌≡◌, Bool, true, false, ◌&&◌, List, [], ◌∷◌, ℕ, suc, ◌%◌, length}
use Rattle.std.proofs.Common.{arith}
use Rattle.basics.specs.Search.{least, how_many}
use Rattle.scans.specs.Occurrences.{occurs_at, occurrences, on_step}
use Rattle.scans.specs.laws.Hits.{first_on_step}
use Rattle.scans.specs.laws.Steps.{hits-number, hits_first, hits-none, hits_some}
use Rattle.drawlog.specs.Log.{id_at}
use Rattle.pairs.specs.Check.{block, probe, Pair, pair_with, pairs}
use Rattle.pairs.specs.Promise.{step}
use Rattle.pairs.specs.laws.Check.{with_none, with_some}
use Rattle.pairs.specs.laws.Each.{Each, each_pair}

-- owner a's probe occurs in block b at the offset j from the block's start, and j is a multiple of 8
abbrev pub overlaps_at : ℕ → List ℕ → ℕ → ℕ → ℕ → Bool
overlaps_at p s a b j = occurs_at (probe p s a) (block s b) j && on_step step j

-- the offsets to try: 0 to the block's length
abbrev pub offsets : List ℕ → ℕ → ℕ
offsets s b = suc (length (block s b))

-- Owner a and block b, of which `pairs_of` takes the pair where a is probed; an unprobed owner has none.
pub record Overlap (p : ℕ) (s : List ℕ) (a b : ℕ) : Type 0 where
  -- one such offset makes a pair, of which are told the least and how many there are
  pub some : (j : ℕ) → overlaps_at p s a b j ≡ true
      → pair_with step (probe p s a) s a b
      ≡ record { owner = id_at s a; other = id_at s b; first = least (overlaps_at p s a b) (offsets s b) 0; number = how_many (overlaps_at p s a b) (offsets s b) } ∷ []
  -- without one there is none, whatever other offsets the probe occurs at
  pub none : ((j : ℕ) → overlaps_at p s a b j ≡ false) → pair_with step (probe p s a) s a b ≡ []

pub overlap : (p : ℕ) (s : List ℕ) (a b : ℕ) → (a ≡ b → ⊥) → Overlap p s a b
overlap p s a b other =
    let x = probe p s a in
    let y = block s b in
    record {
      some = λ j e.
          let h = hits_some x y step j e in
          rw (← hits_first x y step h, ← hits-number x y step) (with_some step x s a b other (omega (arith, h)));
      none = λ h. with_none step x s a b other (hits-none x y step h);
    }

-- So the first offset of every pair is a multiple of 8.
pub first_aligned : (p : ℕ) (s : List ℕ) (n : ℕ) → Each (λ (q : Pair). q.first % 8 ≡ 0) (pairs step p s n)
first_aligned p s =
    each_pair (λ (q : Pair). q.first % 8 ≡ 0) step p s (λ a b l. first_on_step step (occurrences (probe p s a) (block s b)))
