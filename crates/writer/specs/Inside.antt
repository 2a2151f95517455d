-- Words of private contracts. Assumes nothing.
use Rattle.std.specs.Prelude.{◌≡◌, cond, true, List, ℕ, ◌+◌, ◌%◌, ◌≤◌, ◌<◌, ltb, length}
use Rattle.basics.specs.Lists.{at}
use Rattle.basics.specs.Refusal.{Cause, no_cause}
use Rattle.basics.specs.laws.Inlaid.{Inlaid}
use Rattle.drawlog.specs.Log.{longest, most, draw_size}
use Rattle.writer.specs.Made.{sum_to, size_of}
use Rattle.writer.specs.declared.put.Cursor.{Cursor}
use Rattle.writer.specs.Refusal.{rises, entry_cause, first_bad}

-- the cause of the first entry that has one
unfoldable pub entries_cause : List ℕ → List ℕ → Cause
entries_cause is ns =
    cond (ltb (first_bad is ns) (length is)) (record { refusal = entry_cause is ns (first_bad is ns); entry = first_bad is ns })
    no_cause

-- inputs with none of the causes
pub record Fit (b is ns : List ℕ) (n : ℕ) : Type 0 where
  pub paired : length is ≡ length ns
  pub some : 1 ≤ length is
  pub few : length is ≤ most
  pub up : (k : ℕ) → k < length is → rises is k ≡ true
  pub whole : (k : ℕ) → k < length is → at ns k % draw_size ≡ 0
  pub sums : length b ≡ sum_to ns (length is)
  pub short : size_of b is ≤ longest
  pub held : size_of b is ≤ n

-- the room d' is the room d with the list w from place p on, and r is the place after it
pub record Put (d : List ℕ) (p : ℕ) (w : List ℕ) (r : ℕ) (d' : List ℕ) : Type 0 where
  pub laid : Inlaid d p w d'
  pub after : r ≡ p + length w

-- the cursor c' is the cursor c after the list w was put where it stood
pub record Puts (c : Cursor) (w : List ℕ) (c' : Cursor) : Type 0 where
  pub same : c'.room.ghost_name ≡ c.room.ghost_name
  pub put : Put c.room.now c.place w c'.place c'.room.now
