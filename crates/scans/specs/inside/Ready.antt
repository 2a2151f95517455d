-- What always holds of that into which a scan looks. Assumes nothing.
use Rattle.std.specs.Prelude.{◌≡◌, List, ℕ, ◌≤◌, length}
use Rattle.basics.specs.Rooms.{Begins}
use Rattle.tables.specs.Refusal.{longest}
use Rattle.tables.specs.Both.{both_tables}
use Rattle.tables.specs.Occurrence.{occurrence_table}
use Rattle.scans.specs.Refusal.{largest}

-- sizes within the limits
pub record Sizes (x y : List ℕ) : Type 0 where
  pub some : 1 ≤ length x
  pub short : length x ≤ longest
  pub small : length y ≤ largest

-- the room with both tables and the occurrence table are those of x
pub record Moving (x tables occ : List ℕ) : Type 0 where
  pub begins : Begins (both_tables x) tables
  pub byte : occ ≡ occurrence_table x

-- both
pub record Ready (x y tables occ : List ℕ) : Type 0 where
  pub sizes : Sizes x y
  pub moving : Moving x tables occ
