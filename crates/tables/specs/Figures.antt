-- The starred rows of document 01, computed from the definitions, as one table; and the edges. Assumes nothing.
use Rattle.std.specs.Prelude.{◌≡◌, refl, cond, List, [], ◌∷◌, map, ℕ, eqb, length}
use Rattle.basics.specs.Search.{least, greatest}
use Rattle.basics.specs.Lists.{same, table}
use Rattle.tables.specs.Suffix.{ends_alike, suffix_at, suffix_table}
use Rattle.tables.specs.Shift.{fits_near, fits_far, fits, shift_at, shift_table, period}
use Rattle.tables.specs.Occurrence.{stands_at, occurrence_at, occurrence_table}
use Rattle.tables.specs.Both.{in_pairs, both_tables}
use Rattle.tables.specs.Refusal.{refusal_of}
use Rattle.tables.specs.Comparisons.{lcsuf, falls, compared, told, rounds, comparisons}

abbrev a : ℕ
a = 97

abbrev b : ℕ
b = 98

abbrev c : ℕ
c = 99

-- one entry of an occurrence column
pub record Entry : Type 0 where
  pub byte : ℕ
  pub is : ℕ

-- a starred row: the probe, and what the document says of it
pub record Row : Type 0 where
  pub probe : List ℕ
  pub suffix : List ℕ
  pub shift : List ℕ
  pub listed : List Entry

-- the entry of byte k in an occurrence column: the listed number, or m for the others
unfoldable pub column_at : List Entry → ℕ → ℕ → ℕ
column_at [] m k = m
column_at (e ∷ es) m k = let others = column_at es m k in cond (eqb k e.byte) e.is others

-- all three tables, the occurrence table with all its 256 entries
pub record Tables : Type 0 where
  pub suffix : List ℕ
  pub shift : List ℕ
  pub occurrence : List ℕ

unfoldable pub said : Row → Tables
said r = record { suffix = r.suffix; shift = r.shift; occurrence = table 256 (column_at r.listed (length r.probe)) }

unfoldable pub computed : Row → Tables
computed r = record { suffix = suffix_table r.probe; shift = shift_table r.probe; occurrence = occurrence_table r.probe }

unfoldable pub rows : List Row
rows =
    record { probe = b ∷ []; suffix = 1 ∷ []; shift = 1 ∷ []; listed = record { byte = b; is = 1 } ∷ [] }
    ∷ record {
      probe = a ∷ a ∷ b ∷ [];
      suffix = 0 ∷ 0 ∷ 3 ∷ [];
      shift = 3 ∷ 3 ∷ 1 ∷ [];
      listed = record { byte = a; is = 1 } ∷ record { byte = b; is = 3 } ∷ [];
    }
    ∷ record {
      probe = a ∷ b ∷ a ∷ b ∷ [];
      suffix = 0 ∷ 2 ∷ 0 ∷ 4 ∷ [];
      shift = 2 ∷ 2 ∷ 4 ∷ 1 ∷ [];
      listed = record { byte = a; is = 1 } ∷ record { byte = b; is = 2 } ∷ [];
    }
    ∷ record {
      probe = a ∷ a ∷ a ∷ a ∷ [];
      suffix = 1 ∷ 2 ∷ 3 ∷ 4 ∷ [];
      shift = 1 ∷ 2 ∷ 3 ∷ 4 ∷ [];
      listed = record { byte = a; is = 1 } ∷ [];
    }
    ∷ record {
      probe = c ∷ a ∷ a ∷ a ∷ [];
      suffix = 0 ∷ 1 ∷ 2 ∷ 4 ∷ [];
      shift = 4 ∷ 1 ∷ 2 ∷ 3 ∷ [];
      listed = record { byte = a; is = 1 } ∷ record { byte = c; is = 3 } ∷ [];
    }
    ∷ []

pub starred : map computed rows ≡ map said rows
unfolding rows computed said column_at table same least greatest ends_alike suffix_at suffix_table fits_near fits_far fits shift_at shift_table stands_at occurrence_at occurrence_table
starred = refl

-- in one room, suffix entry then shift entry: of the third row
together : both_tables (a ∷ b ∷ a ∷ b ∷ []) ≡ 0 ∷ 2 ∷ 2 ∷ 2 ∷ 0 ∷ 4 ∷ 4 ∷ 1 ∷ []
unfolding both_tables in_pairs table same least greatest ends_alike suffix_at suffix_table fits_near fits_far fits shift_at shift_table
together = refl

-- entry 0 is the period, of each row
periods : map (λ (r : Row). shift_at r.probe 0) rows ≡ map (λ (r : Row). period r.probe) rows
unfolding rows same least fits_near fits_far fits shift_at period
periods = refl

-- what filling the suffix table of each row compares, counted by hand beside figure 9
counted : map (λ (r : Row). comparisons r.probe) rows ≡ 0 ∷ 2 ∷ 3 ∷ 3 ∷ 5 ∷ []
unfolding rows same greatest ends_alike suffix_at lcsuf falls compared told rounds comparisons
counted = refl

-- a probe of 4,096 bytes is accepted, one of 4,097 refused 2; a room with k numbers for each byte is accepted, one of one less refused 4
edges : map (refusal_of 1 4096) (4096 ∷ 4095 ∷ []) ≡ 0 ∷ 4 ∷ []
unfolding refusal_of
edges = refl

edges_both : map (refusal_of 2 4096) (8192 ∷ 8191 ∷ []) ≡ 0 ∷ 4 ∷ []
unfolding refusal_of
edges_both = refl

edges_long : map (refusal_of 1 4097) (4097 ∷ 4096 ∷ []) ≡ 2 ∷ 2 ∷ []
unfolding refusal_of
edges_long = refl

edges_empty : map (refusal_of 1 0) (0 ∷ 1 ∷ []) ≡ 1 ∷ 1 ∷ []
unfolding refusal_of
edges_empty = refl
