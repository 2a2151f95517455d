-- What is noted of the occurrences while a scan runs, and what a whole run gives. Assumes nothing.
use Rattle.std.specs.Prelude.{cond, List, ℕ, ◌+◌, length, set}
use Rattle.scans.specs.declared.loops.Run.{Run}
use Rattle.scans.specs.Trace.{End, matched, stopped, Window, comparisons, positions}
use Rattle.scans.specs.Occurrences.{on_step, multiples}
use Rattle.scans.specs.inside.Closest.{closest_of}

-- a window at j that ended so: how many places are noted after it, of which h were before, and the position room r; only places at multiples of the step d are
abbrev pub counted_by : ℕ → ℕ → End → ℕ → ℕ
counted_by d j matched h = cond (on_step d j) (h + 1) h
counted_by d j (stopped i) h = h

abbrev pub noted_by : ℕ → ℕ → End → ℕ → List ℕ → List ℕ
noted_by d j matched h r = cond (on_step d j) (set r h j) r
noted_by d j (stopped i) h r = r

-- the places of a trace that are noted, with the step d
abbrev pub places_of : ℕ → List Window → List ℕ
places_of d ws = multiples d (positions ws)

-- the numbers of a whole trace
abbrev pub run_of : ℕ → List Window → Run
run_of d ws = record { hits = length (places_of d ws); windows = length ws; comparisons = comparisons ws; closest = closest_of ws }
