-- When no log is made of the block bytes b, the ids is and the lengths ns with a room of n bytes: the causes, each by its number, in the order in which they are tested. Assumes nothing.
use Rattle.std.specs.Prelude.{Bool, cond, not, ◌&&◌, List, ℕ, ◌%◌, eqb, leb, ltb, length}
use Rattle.basics.specs.Lists.{at, rising}
use Rattle.basics.specs.Search.{first_caused}
use Rattle.basics.specs.Refusal.{Cause}
use Rattle.drawlog.specs.Log.{longest, most, draw_size}
use Rattle.writer.specs.Made.{sum_to, size_of}

-- 31 where ids and lengths differ in number, then 13; 0 where neither holds
unfoldable pub count_cause : List ℕ → List ℕ → ℕ
count_cause is ns =
    cond (not (eqb (length is) (length ns))) 31
    (cond (not (leb 1 (length is) && leb (length is) most)) 13
    0)

-- the id of entry k is above the one before; entry 0 never meets 15
abbrev pub rises : List ℕ → ℕ → Bool
rises is k = rising (λ j. at is j) k

-- 15, then 17, of entry k; 0 where neither holds
unfoldable pub entry_cause : List ℕ → List ℕ → ℕ → ℕ
entry_cause is ns k =
    cond (not (rises is k)) 15
    (cond (not (eqb (at ns k % draw_size) 0)) 17
    0)

-- the first entry that has a cause; their number where none has
unfoldable pub first_bad : List ℕ → List ℕ → ℕ
first_bad is ns = first_caused (entry_cause is ns) (length is)

-- 22 where the supplied bytes differ from the sum of lengths, 11 where the log would pass its limit, 23 where the room is shorter than the log; 0 where none holds
unfoldable pub size_cause : List ℕ → List ℕ → List ℕ → ℕ → ℕ
size_cause b is ns n =
    cond (not (eqb (length b) (sum_to ns (length is)))) 22
    (cond (ltb longest (size_of b is)) 11
    (cond (ltb n (size_of b is)) 23
    0))

-- the first cause to hold, with its entry number: 31 and 13; then the entries one after another; then 22, 11 and 23
unfoldable pub cause_of : List ℕ → List ℕ → List ℕ → ℕ → Cause
cause_of b is ns n =
    cond (not (eqb (count_cause is ns) 0)) (record { refusal = count_cause is ns; entry = 0 })
    (cond (ltb (first_bad is ns) (length is)) (record { refusal = entry_cause is ns (first_bad is ns); entry = first_bad is ns })
    (record { refusal = size_cause b is ns n; entry = 0 }))
