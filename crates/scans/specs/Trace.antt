-- A scan as a trace: the list of its windows, in the order in which they are visited. Assumes nothing.
use Rattle.std.specs.Prelude.{List, [], ◌∷◌, ℕ, suc, ◌+◌, ◌-◌}

-- how a window ends: it matches, or it stops at an index of the probe
pub data End : Type 0 where
  matched : End
  stopped : ℕ → End

-- what one pass over a window yields: its end, the comparisons made, and the number of bytes matched or passed
pub record Pass : Type 0 where
  pub end : End
  pub comps : ℕ
  pub kept : ℕ

-- one comparison more
abbrev pub more : Pass → Pass
more w = record { end = w.end; comps = suc w.comps; kept = w.kept }

-- how many trailing bytes of a probe of m bytes equal the stream in a window that ends so: all of them, or those behind the index
abbrev pub equal_by : ℕ → End → ℕ
equal_by m matched = m
equal_by m (stopped i) = m - 1 - i

-- a window of a trace: where it starts, how it ends, its comparisons, and how many trailing bytes of the probe equal the stream there
pub record Window : Type 0 where
  pub start : ℕ
  pub end : End
  pub comps : ℕ
  pub equal : ℕ

-- the window at j of a probe of m bytes
abbrev pub window : ℕ → ℕ → Pass → Window
window m j w = record { start = j; end = w.end; comps = w.comps; equal = equal_by m w.end }

-- the comparisons of a trace
unfoldable pub comparisons : List Window → ℕ
comparisons [] = 0
comparisons (w ∷ ws) = w.comps + comparisons ws

-- the position that a window reports if it matches, before those of the later ones
abbrev pub found : ℕ → End → List ℕ → List ℕ
found j matched later = j ∷ later
found j (stopped i) later = later

-- the positions that a trace reports
unfoldable pub positions : List Window → List ℕ
positions [] = []
positions (w ∷ ws) = found w.start w.end (positions ws)

-- which window is visited, how it ends and what it tells: all of it but the comparisons
pub record Visit : Type 0 where
  pub start : ℕ
  pub end : End
  pub equal : ℕ

abbrev pub visit : Window → Visit
visit w = record { start = w.start; end = w.end; equal = w.equal }
