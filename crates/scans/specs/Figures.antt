-- The eleven starred rows of document 01 as one table, computed from the definitions. Assumes nothing.
use Rattle.std.specs.Prelude.{◌≡◌, refl, List, [], ◌∷◌, ◌++◌, map, ℕ, length}
use Rattle.basics.specs.Search.{least, greatest}
use Rattle.basics.specs.Lists.{same, table}
use Rattle.tables.specs.Suffix.{ends_alike, suffix_at, suffix_table}
use Rattle.tables.specs.Shift.{fits_near, fits_far, fits, shift_at, shift_table}
use Rattle.tables.specs.Occurrence.{stands_at, occurrence_at, occurrence_table}
use Rattle.tables.specs.Figures as tables
use Rattle.scans.specs.Trace.{Window, comparisons, positions}
use Rattle.scans.specs.Move.{move}
use Rattle.scans.specs.Plain.{plain_from, plain_scan, plain}
use Rattle.scans.specs.Remember.{rule, mem_from, remember, mem_scan, remembering}
use Rattle.scans.specs.Closeness.{ends_equal, trailing, closest, first_telling, closest_start}
use Rattle.scans.specs.Occurrences.{occurs_at, occurs_from, occurrences}

abbrev a : ℕ
a = 97

abbrev b : ℕ
b = 98

abbrev c : ℕ
c = 99

abbrev x : ℕ
x = 120

-- a starred row of the scans: probe and stream, and what the document says of them
record Row : Type 0 where
  probe : List ℕ
  stream : List ℕ
  places : List ℕ
  windows : ℕ
  plainly : ℕ
  remembered : ℕ

-- a starred row of either table
data Starred : Type 0 where
  of_tables : tables.Row → Starred
  of_scans : Row → Starred

-- the columns of a row: as the document has them, and as they are computed. Both scans give the positions and the windows.
said : Starred → List (List ℕ)
said (of_tables r) = let t = tables.said r in t.suffix ∷ t.shift ∷ t.occurrence ∷ []
said (of_scans r) =
    r.places ∷ r.places ∷ r.places ∷ (r.windows ∷ r.windows ∷ r.plainly ∷ r.remembered ∷ []) ∷ []

computed : Starred → List (List ℕ)
computed (of_tables r) = let t = tables.computed r in t.suffix ∷ t.shift ∷ t.occurrence ∷ []
computed (of_scans r) =
    let p = plain r.probe r.stream in
    let q = remembering r.probe r.stream in
    occurrences r.probe r.stream ∷ positions p ∷ positions q ∷ (length p ∷ length q ∷ comparisons p ∷ comparisons q ∷ []) ∷ []

rows : List Row
rows =
    record {
      probe = a ∷ a ∷ a ∷ a ∷ [];
      stream = a ∷ a ∷ a ∷ a ∷ a ∷ a ∷ [];
      places = 0 ∷ 1 ∷ 2 ∷ [];
      windows = 3;
      plainly = 12;
      remembered = 6;
    }
    ∷ record {
      probe = a ∷ b ∷ a ∷ b ∷ [];
      stream = a ∷ b ∷ a ∷ b ∷ a ∷ b ∷ [];
      places = 0 ∷ 2 ∷ [];
      windows = 2;
      plainly = 8;
      remembered = 6;
    }
    ∷ record {
      probe = a ∷ b ∷ a ∷ b ∷ [];
      stream = a ∷ b ∷ b ∷ a ∷ b ∷ a ∷ b ∷ [];
      places = 3 ∷ [];
      windows = 3;
      plainly = 9;
      remembered = 7;
    }
    ∷ record {
      probe = c ∷ a ∷ a ∷ a ∷ [];
      stream = x ∷ c ∷ a ∷ a ∷ a ∷ [];
      places = 1 ∷ [];
      windows = 2;
      plainly = 7;
      remembered = 5;
    }
    ∷ record {
      probe = c ∷ a ∷ a ∷ a ∷ [];
      stream = x ∷ b ∷ a ∷ a ∷ a ∷ a ∷ [];
      places = [];
      windows = 2;
      plainly = 7;
      remembered = 5;
    }
    ∷ record {
      probe = a ∷ a ∷ b ∷ [];
      stream = a ∷ a ∷ [];
      places = [];
      windows = 0;
      plainly = 0;
      remembered = 0;
    }
    ∷ []

-- How close the scans come on these rows, of which the document says nothing: what the windows tell in either scan and in truth, the greatest of it, and
-- where the first window with the greatest starts.
told : Row → List (List ℕ)
told r =
    let p = plain r.probe r.stream in
    let q = remembering r.probe r.stream in
    map (λ (w : Window). w.equal) p
    ∷ map (λ (w : Window). w.equal) q
    ∷ map (λ (w : Window). trailing r.probe r.stream w.start) q
    ∷ (closest p ∷ closest q ∷ [])
    ∷ (closest_start p ∷ closest_start q ∷ [])
    ∷ []

-- the same numbers, greatest and place, of both scans
alike : List ℕ → ℕ → ℕ → List (List ℕ)
alike ns greatest place = ns ∷ ns ∷ ns ∷ (greatest ∷ greatest ∷ []) ∷ (place ∷ place ∷ []) ∷ []

-- In the fifth row the last window stops without a comparison: 3 bytes are equal there, and 2 is stored.
close : map told rows
    ≡ alike (4 ∷ 4 ∷ 4 ∷ []) 4 0
    ∷ alike (4 ∷ 4 ∷ []) 4 0
    ∷ alike (0 ∷ 3 ∷ 4 ∷ []) 4 3
    ∷ alike (2 ∷ 4 ∷ []) 4 1
    ∷ alike (2 ∷ 3 ∷ []) 3 2
    ∷ alike [] 0 0
    ∷ []
unfolding rows told alike table same least greatest ends_alike suffix_at suffix_table fits_near fits_far fits shift_at shift_table stands_at occurrence_at occurrence_table move plain_from plain_scan plain rule mem_from remember mem_scan remembering ends_equal trailing closest first_telling
close = refl

eleven : List Starred
eleven = map of_tables tables.rows ++ map of_scans rows

starred : map computed eleven ≡ map said eleven
unfolding eleven rows computed said tables.rows tables.said tables.computed tables.column_at table same least greatest ends_alike suffix_at suffix_table fits_near fits_far fits shift_at shift_table stands_at occurrence_at occurrence_table move plain_from plain_scan plain rule mem_from remember mem_scan remembering comparisons positions occurs_at occurs_from occurrences
starred = refl
