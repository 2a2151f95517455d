-- The closest window while a scan runs. Assumes nothing.
use Rattle.std.specs.Prelude.{cond, List, ℕ, ltb}
use Rattle.scans.specs.declared.closeness.Closest.{Closest}
use Rattle.scans.specs.Trace.{Window}
use Rattle.scans.specs.Closeness.{closest, closest_start}

-- of the windows of a trace
abbrev pub closest_of : List Window → Closest
closest_of ws = record { equal = closest ws; at = closest_start ws }

-- of windows whose closest was b, and then the window at j with k bytes equal; of two with as many, the earlier
abbrev pub closer_by : Closest → ℕ → ℕ → Closest
closer_by b k j = cond (ltb b.equal k) (record { equal = k; at = j }) b
