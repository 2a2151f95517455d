-- The suffix table of a probe x of m bytes. Assumes nothing.
--
--        0           i               m−1
--     x  . . a v v v . . . . . b v v v       v: the last k bytes of x[0..i] and of x;
--                                            k is the longest where a ≠ b, or where there is no a
use Rattle.std.specs.Prelude.{Bool, List, ℕ, suc, ◌-◌, length}
use Rattle.std.proofs.Math.Seq.{slice}
use Rattle.basics.specs.Search.{greatest}
use Rattle.basics.specs.Lists.{same, table}

-- x[0..i] and x end in the same k bytes
unfoldable pub ends_alike : List ℕ → ℕ → ℕ → Bool
ends_alike x i k = same (slice (suc i - k) (suc i) x) (slice (length x - k) (length x) x)

-- entry i: the length of the longest common suffix of x[0..i] and x
unfoldable pub suffix_at : List ℕ → ℕ → ℕ
suffix_at x i = greatest (ends_alike x i) (suc i)

unfoldable pub suffix_table : List ℕ → List ℕ
suffix_table x = table (length x) (suffix_at x)
