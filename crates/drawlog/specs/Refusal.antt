-- When a log is refused: the causes 10 to 17, each by its number in document 01, in the order in which they are tested. Assumes nothing.
use Rattle.std.specs.Prelude.{Bool, cond, not, ◌&&◌, List, ℕ, zero, suc, ◌+◌, ◌*◌, ◌%◌, eqb, leb, ltb, length}
use Rattle.basics.specs.Lists.{rising}
use Rattle.basics.specs.Search.{first_caused}
use Rattle.basics.specs.Refusal.{Cause}
use Rattle.drawlog.specs.Log.{entry_size, trailer_size, longest, most, draw_size, directory, count, marked, id_at, start_at, length_at}

-- the first cause of 10 to 14 that holds; 0 where none does
unfoldable pub log_cause : List ℕ → ℕ
log_cause s =
    cond (ltb (length s) trailer_size) 10
    (cond (ltb longest (length s)) 11
    (cond (not (marked s)) 12
    (cond (not (leb 1 (count s) && leb (count s) most)) 13
    (cond (not (eqb (directory s + entry_size * count s + trailer_size) (length s))) 14
    0))))

-- the id of entry k is above the one before; entry 0 never meets 15
abbrev pub rises : List ℕ → ℕ → Bool
rises s k = rising (id_at s) k

-- where block k has to start: the first at byte 0, any other where the previous one ended
unfoldable pub due : List ℕ → ℕ → ℕ
due s zero = 0
due s (suc k) = start_at s k + length_at s k

-- the first cause of 15 to 17 that holds of entry k; 0 where none does
unfoldable pub entry_cause : List ℕ → ℕ → ℕ
entry_cause s k =
    cond (not (rises s k)) 15
    (cond (not (eqb (start_at s k) (due s k))) 16
    (cond (not (eqb (length_at s k % draw_size) 0)) 17
    0))

-- the first entry that has a cause; the count where none has
unfoldable pub first_bad : List ℕ → ℕ
first_bad s = first_caused (entry_cause s) (count s)

-- the first cause to hold, with its entry number: 10 to 14; then the entries one after another; then the last end
unfoldable pub cause_of : List ℕ → Cause
cause_of s =
    cond (not (eqb (log_cause s) 0)) (record { refusal = log_cause s; entry = 0 })
    (cond (ltb (first_bad s) (count s)) (record { refusal = entry_cause s (first_bad s); entry = first_bad s })
    (cond (not (eqb (due s (count s)) (directory s))) (record { refusal = 16; entry = count s })
    (record { refusal = 0; entry = 0 })))

-- no cause holds
abbrev pub accepted : List ℕ → Bool
accepted s = eqb (cause_of s).refusal 0
