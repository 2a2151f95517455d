-- How far a window of probe x moves on stream y. Both scans move so. Assumes nothing.
use Rattle.std.specs.Prelude.{List, ℕ, ◌+◌, ◌-◌, max, length}
use Rattle.basics.specs.Lists.{at}
use Rattle.tables.specs.Shift.{shift_at}
use Rattle.tables.specs.Occurrence.{occurrence_at}
use Rattle.scans.specs.Trace.{End, matched, stopped}

-- After a match: by shift entry 0. After a stop at i: by the larger of shift entry i and occ(y[j+i]) − (m − 1 − i). The second may be negative;
-- the difference here is then 0, and shift entries are at least 1.
unfoldable pub move : List ℕ → List ℕ → ℕ → End → ℕ
move x y j matched = shift_at x 0
move x y j (stopped i) = max (shift_at x i) (occurrence_at x (at y (j + i)) - (length x - 1 - i))
