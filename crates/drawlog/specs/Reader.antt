-- The reader held open over one log, as a value: how it is made, what it hands out, and how it goes on. Assumes nothing.
use Rattle.std.specs.Prelude.{Bool, cond, List, [], ◌∷◌, ℕ, zero, suc, ◌+◌, min, max, take, drop}
use Rattle.std.specs.Borrow.{Bor}
use Rattle.basics.specs.Refusal.{Cause, cause_seen}
use Rattle.drawlog.specs.declared.reader.Reader as held
use Rattle.drawlog.specs.Promise.{tested_of, found_of, listed_of, has_entry, BlockAt}

-- the log, the number of the next entry, the refusal and the entry at fault
pub record Reader : Type 0 where
  pub log : Bor (List ℕ)
  pub next : ℕ
  pub refusal : ℕ
  pub fault : ℕ

-- the reader of the code, as that value
abbrev pub reader_seen : held.Reader → Reader
reader_seen r = record { log = r.log; next = r.next; refusal = (cause_seen r.outcome).refusal; fault = (cause_seen r.outcome).entry }

-- made by the log test: before entry 0, with the refusal and its entry number
abbrev pub opened : Bor (List ℕ) → Reader
opened l = record { log = l; next = 0; refusal = (tested_of l.now).refusal; fault = (tested_of l.now).entry }

-- the refusal that it carries, with its entry number
abbrev pub carried : Reader → Cause
carried r = record { refusal = r.refusal; entry = r.fault }

-- a block is left
abbrev pub left : Reader → Bool
left r = has_entry r.log.now r.next

-- b is the block before which it stands; an empty stretch where none is left
abbrev pub Handed : Reader → Bor (List ℕ) → Type 0
Handed r b = BlockAt r.log r.next b

-- n entries on from entry k: to the count at most, and never back
abbrev pub ahead : List ℕ → ℕ → ℕ → ℕ
ahead s k n = max k (min (k + n) (tested_of s).count)

-- the reader n blocks on
abbrev pub skipped : Reader → ℕ → Reader
skipped r n = record { log = r.log; next = ahead r.log.now r.next n; refusal = r.refusal; fault = r.fault }

-- READING ALL
-- start and length of the block before which it stands
abbrev pub stands : Reader → ℕ × ℕ
stands r = ((listed_of r.log.now r.next).start, (listed_of r.log.now r.next).length)

-- what n calls hand out, one block on after each, until none is left
unfoldable pub handed_out : ℕ → Reader → List (ℕ × ℕ)
handed_out zero r = []
handed_out (suc n) r = let later = handed_out n (skipped r 1) in cond (left r) (stands r ∷ later) []

-- what the lookup finds for the ids of n entries, from entry k on in directory order
unfoldable pub looked_up : List ℕ → ℕ → ℕ → List (ℕ × ℕ)
looked_up s zero k = []
looked_up s (suc n) k = let f = found_of s (listed_of s k).id in (f.start, f.length) ∷ looked_up s n (suc k)

-- the bytes of such a stretch
abbrev pub cut : List ℕ → ℕ × ℕ → List ℕ
cut s w = take w.1 (drop w.0 s)
