-- How close a scan of stream y for probe x came. Assumes nothing.
--
--        j               j+m−1
--     y  . . . a v v v v v . .       v: the last k bytes of x, and of the window at j;
--     x  . . . b v v v v v           k is the greatest where a ≠ b, or where there is no b
use Rattle.std.specs.Prelude.{◌≡◌, Bool, cond, List, [], ◌∷◌, map, ℕ, ◌+◌, ◌-◌, max, eqb, length}
use Rattle.std.proofs.Math.Seq.{slice}
use Rattle.basics.specs.Search.{greatest}
use Rattle.basics.specs.Lists.{same}
use Rattle.scans.specs.Trace.{Window}

-- the last k bytes of x equal the stream in the window at j
unfoldable pub ends_equal : List ℕ → List ℕ → ℕ → ℕ → Bool
ends_equal x y j k = same (slice (j + length x - k) (j + length x) y) (slice (length x - k) (length x) x)

-- how many trailing bytes of x equal the stream there. Nothing of a scan is in it
unfoldable pub trailing : List ℕ → List ℕ → ℕ → ℕ
trailing x y j = greatest (ends_equal x y j) (length x)

-- each window of a trace tells this number
abbrev pub Truly : List ℕ → List ℕ → List Window → Type 0
Truly x y ws = map (λ (w : Window). w.equal) ws ≡ map (λ (w : Window). trailing x y w.start) ws

-- the greatest such number that a window of a trace tells; 0 with no window
unfoldable pub closest : List Window → ℕ
closest [] = 0
closest (w ∷ ws) = max w.equal (closest ws)

-- where the first window that tells k starts; 0 where none does
unfoldable pub first_telling : ℕ → List Window → ℕ
first_telling k [] = 0
first_telling k (w ∷ ws) = let later = first_telling k ws in cond (eqb w.equal k) w.start later

-- where the first window that reached the greatest starts
abbrev pub closest_start : List Window → ℕ
closest_start ws = first_telling (closest ws) ws
