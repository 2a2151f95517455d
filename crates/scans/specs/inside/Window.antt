-- What the window functions take and give. A window's end is told by its stop: the index where it stopped, or none where it matched. Assumes nothing.
use Rattle.std.specs.Prelude.{◌≡◌, List, ℕ, suc, ◌+◌, ◌-◌, ◌≤◌, ◌<◌, Option, Some, None, IfSome, MatchOption, length, drop}
use Rattle.basics.specs.Lists.{at}
use Rattle.scans.specs.declared.scan.Window.{Window}
use Rattle.scans.specs.declared.windows.Passed.{Passed}
use Rattle.scans.specs.Trace.{End, matched, stopped, Pass}
use Rattle.scans.specs.Remember.{mem_from, remember}
use Rattle.scans.specs.inside.Slots.{recalled, Stands}

-- the bytes of a window
abbrev pub size : Window → ℕ
size w = length w.scan.probe.now

-- its start has the slot s of the memory room
abbrev pub Starts : Window → ℕ → Type 0
Starts w s = Stands (size w) w.at (record { at = w.at; slot = s })

-- the remembering pass over it, by the memory room, from index k − 1 down
abbrev pub pass_down : Window → List ℕ → ℕ → Pass
pass_down w mem k = mem_from w.scan.probe.now w.scan.stream.now (recalled mem (size w)) w.at k k

abbrev pub stop_of : End → Option ℕ
stop_of matched = None
stop_of (stopped i) = Some i

abbrev pub end_of : Option ℕ → End
end_of None = matched
end_of (Some i) = stopped i

-- how many bytes are left where a window ends: none, or those up to its stop
abbrev pub left_of : End → ℕ
left_of matched = 0
left_of (stopped i) = suc i

-- a stop within a probe of m bytes
abbrev pub Within : ℕ → Option ℕ → Type 0
Within m stop = IfSome stop (λ i. i < m)

-- a window compared, and the comparisons made so far
pub record Seen : Type 0 where
  pub stop : Option ℕ
  pub count : ℕ

abbrev pub seen_as : Option ℕ → ℕ → Seen
seen_as stop c = record { stop = stop; count = c }

-- a pass that began after c comparisons
abbrev pub seen_of : Pass → ℕ → Seen
seen_of p c = seen_as (stop_of p.end) (c + p.comps)

-- the same with the length to remember
pub record Gone : Type 0 where
  pub stop : Option ℕ
  pub kept : ℕ
  pub count : ℕ

abbrev pub passed_as : Option ℕ → ℕ → ℕ → Gone
passed_as stop kept c = record { stop = stop; kept = kept; count = c }

abbrev pub passed_of : Pass → ℕ → Gone
passed_of p c = passed_as (stop_of p.end) p.kept (c + p.comps)

-- what the code gives, with the comparisons made so far
abbrev pub passed_by : Passed → ℕ → Gone
passed_by w c = passed_as w.stop w.kept c

-- BYTES COMPARED from index high − 1 down to low, after c comparisons. All are equal
pub record Alike (x y : List ℕ) (j high low c c' : ℕ) : Type 0 where
  pub equal : (t : ℕ) → low ≤ t → t < high → at y (j + t) ≡ at x t
  pub count : c' + low ≡ c + high

-- or those at i are the first that are not
pub record Unlike (x y : List ℕ) (j high low c i c' : ℕ) : Type 0 where
  pub from : low ≤ i
  pub to : i < high
  pub equal : (t : ℕ) → i < t → t < high → at y (j + t) ≡ at x t
  pub stops : at y (j + i) ≡ at x i → ⊥
  pub count : c' + i ≡ c + high

abbrev pub Ahead : List ℕ → List ℕ → ℕ → ℕ → ℕ → ℕ → Option ℕ → ℕ → Type 0
Ahead x y j high low c stop c' = MatchOption stop (Alike x y j high low c c') (λ i. Unlike x y j high low c i c')

-- the room mem says from j on what R says, and R says nothing from top on
pub record Memory (m : ℕ) (mem : List ℕ) (j top : ℕ) (R : ℕ → ℕ) : Type 0 where
  pub says : (h : ℕ) → j ≤ h → recalled mem m h ≡ R h
  pub quiet : (h : ℕ) → top ≤ h → R h ≡ 0

-- the memory room says nothing from top on, as far as a window at j looks: of its last byte in any case
pub record Quiet (m : ℕ) (mem : List ℕ) (j top : ℕ) : Type 0 where
  pub under : top < j + m
  pub quiet : (h : ℕ) → j ≤ h → top ≤ h → recalled mem m h ≡ 0

-- v remembered at the end of the window at j
pub record Kept (m : ℕ) (mem : List ℕ) (j top v : ℕ) (mem' : List ℕ) (top' : ℕ) : Type 0 where
  pub memory : (R : ℕ → ℕ) → Memory m mem j top R → Memory m mem' j top' (remember R (j + m - 1) v)
  pub rest : drop m mem' ≡ drop m mem
  pub under : top' ≤ j + m
