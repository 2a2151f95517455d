-- How many bytes are compared to fill the suffix table of a probe x of m bytes: line 8 of figure 9 of source 001. Assumes nothing.
-- On the page g falls to −1. Here g1 is one more than g.
use Rattle.std.specs.Prelude.{Bool, ◌&&◌, cond, List, ℕ, zero, suc, ◌+◌, ◌-◌, min, leb, ltb, length}
use Rattle.std.proofs.Math.Seq.{slice}
use Rattle.basics.specs.Search.{greatest}
use Rattle.basics.specs.Lists.{same}
use Rattle.tables.specs.Suffix.{suffix_at}

-- |lcsuf(x[0..p−1], x[0..q−1])|: the length of their longest common suffix
unfoldable pub lcsuf : List ℕ → ℕ → ℕ → ℕ
lcsuf x p q = greatest (λ k. same (slice (p - k) p x) (slice (q - k) q x)) (min p q)

-- j + m − 1 − f: as far before the last place of x as j is before f
abbrev pub facing : List ℕ → ℕ → ℕ → ℕ
facing x f j = j + (length x - 1) - f

-- lines 8 and 9: how far g falls while x[g] = x[g+m−1−f]
unfoldable pub falls : List ℕ → ℕ → ℕ → ℕ
falls x f g1 = lcsuf x g1 (facing x f g1)

-- the comparisons made there: one for each place that g falls, and one that finds another byte, unless g has fallen to −1
unfoldable pub compared : List ℕ → ℕ → ℕ → ℕ
compared x f g1 = min (falls x f g1 + 1) g1

-- line 4: i > g and suf[i + m − 1 − f] < i − g, so that line 5 sets entry i and nothing is compared
unfoldable pub told : List ℕ → ℕ → ℕ → ℕ → Bool
told x i f g1 = leb g1 i && ltb (suffix_at x (facing x f i)) (i + 1 - g1)

-- lines 3 to 10 for the places before n, from the last one down
unfoldable pub rounds : List ℕ → ℕ → ℕ → ℕ → ℕ
rounds x zero f g1 = 0
rounds x (suc i) f g1 =
    let from = min g1 (i + 1) in
    cond (told x i f g1) (rounds x i f g1) (compared x i from + rounds x i i (from - falls x i from))

-- of the whole figure; f has no value before line 7 and none is read
unfoldable pub comparisons : List ℕ → ℕ
comparisons x = rounds x (length x - 1) (length x - 1) (length x)
