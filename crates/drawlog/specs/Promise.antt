-- What each call answers about the log s. Assumes nothing.
use Rattle.std.specs.Prelude.{◌≡◌, Bool, true, false, cond, Option, Some, None, Result, Ok, Err, List, ℕ, ◌+◌, eqb, ltb, take, drop}
use Rattle.std.specs.Borrow.{Bor}
use Rattle.basics.specs.declared.refusal.Fault.{Fault}
use Rattle.basics.specs.Refusal.{number_of}
use Rattle.basics.specs.Search.{least}
use Rattle.drawlog.specs.declared.layout.Span.{Span}
use Rattle.drawlog.specs.declared.layout.Entry.{Entry}
use Rattle.drawlog.specs.Log.{count, id_at, start_at, length_at}
use Rattle.drawlog.specs.Refusal.{cause_of, accepted}

-- THE LOG TEST: the first cause to hold with its entry number, and the number of replicates; the number is 0 on refusal
pub record Tested : Type 0 where
  pub refusal : ℕ
  pub entry : ℕ
  pub count : ℕ

-- the outcome of the code, as that answer
abbrev pub tested_seen : Result ℕ Fault → Tested
tested_seen (Ok n) = record { refusal = 0; entry = 0; count = n }
tested_seen (Err f) = record { refusal = number_of f.refusal; entry = f.entry; count = 0 }

unfoldable pub tested_of : List ℕ → Tested
tested_of s = record { refusal = (cause_of s).refusal; entry = (cause_of s).entry; count = cond (accepted s) (count s) 0 }

-- THE LOOKUP BY ID: on refusal start and length are 0
pub record Found : Type 0 where
  pub refusal : ℕ
  pub entry : ℕ
  pub start : ℕ
  pub length : ℕ

abbrev pub found_seen : Result Span Fault → Found
found_seen (Ok s) = record { refusal = 0; entry = 0; start = s.start; length = s.length }
found_seen (Err f) = record { refusal = number_of f.refusal; entry = f.entry; start = 0; length = 0 }

-- the first entry with this id; the count where none has it
unfoldable pub seek : List ℕ → ℕ → ℕ
seek s id = least (λ k. eqb (id_at s k) id) (count s) 0

-- the log tests, then 18; the block's start and length
unfoldable pub found_of : List ℕ → ℕ → Found
found_of s id =
    cond (accepted s)
    (cond (ltb (seek s id) (count s))
    (record { refusal = 0; entry = 0; start = start_at s (seek s id); length = length_at s (seek s id) })
    (record { refusal = 18; entry = 0; start = 0; length = 0 }))
    (record { refusal = (cause_of s).refusal; entry = (cause_of s).entry; start = 0; length = 0 })

-- BY ENTRY NUMBER: where there is no such entry, on refusal or past the count, id, start and length are 0
pub record Listed : Type 0 where
  pub refusal : ℕ
  pub entry : ℕ
  pub there : Bool
  pub id : ℕ
  pub start : ℕ
  pub length : ℕ

abbrev pub listed_seen : Result (Option Entry) Fault → Listed
listed_seen (Ok (Some e)) = record { refusal = 0; entry = 0; there = true; id = e.id; start = e.start; length = e.length }
listed_seen (Ok None) = record { refusal = 0; entry = 0; there = false; id = 0; start = 0; length = 0 }
listed_seen (Err f) = record { refusal = number_of f.refusal; entry = f.entry; there = false; id = 0; start = 0; length = 0 }

-- there is an entry k: it is below the number of replicates, which is 0 of a refused log
abbrev pub has_entry : List ℕ → ℕ → Bool
has_entry s k = ltb k (tested_of s).count

-- entry k: the log tests, then its id, start and length
unfoldable pub listed_of : List ℕ → ℕ → Listed
listed_of s k = record {
  refusal = (tested_of s).refusal;
  entry = (tested_of s).entry;
  there = has_entry s k;
  id = cond (has_entry s k) (id_at s k) 0;
  start = cond (has_entry s k) (start_at s k) 0;
  length = cond (has_entry s k) (length_at s k) 0;
}

-- THE BLOCK ITSELF
-- b is that stretch of the log l: n bytes from byte a on, and at that very place
pub record Stretch (l : Bor (List ℕ)) (a n : ℕ) (b : Bor (List ℕ)) : Type 0 where
  pub bytes : b.now ≡ take n (drop a l.now)
  pub place : b.ref_ptr ≡ (l.ref_ptr.0, a + l.ref_ptr.1)

-- the block that the lookup finds; an empty stretch where it refuses
abbrev pub BlockOf : Bor (List ℕ) → ℕ → Bor (List ℕ) → Type 0
BlockOf l id b = Stretch l (found_of l.now id).start (found_of l.now id).length b

-- the block of entry k; an empty stretch where there is none
abbrev pub BlockAt : Bor (List ℕ) → ℕ → Bor (List ℕ) → Type 0
BlockAt l k b = Stretch l (listed_of l.now k).start (listed_of l.now k).length b
